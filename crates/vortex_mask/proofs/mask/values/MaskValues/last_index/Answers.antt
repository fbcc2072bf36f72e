use Rattle.vortex_mask.proofs.Common.{arith, ◌≡◌, ◌-◌, ◌<◌, Some, length, get_or, slice_get, positions, count, values, runs}
use Rattle.vortex_mask.proofs.Masks.CachedLemmas.{cached-runs, mixed-some, runs-some, runs-last, runs-end, index-within}
use Rattle.vortex_mask.proofs.mask.values.MaskValues.last_index.Goals as goal
use Rattle.vortex_mask.proofs.mask.values.MaskValues.last_index.Goals.{In-Some-cached_slices}

-- the ranges are the runs, and there is a true value
are : (c : In-Some-cached_slices) → c.in-Some-cached_slices.ranges.now ≡ runs (values c.args.self.now.buffer)
are c = cached-runs (values c.args.self.now.buffer) c.args.self.now.caches c.in-Some-cached_slices.ranges.now c.in-Some-cached_slices.ensures.cached c.in-Some-cached_slices.ensures.whole

some : (c : In-Some-cached_slices) → 0 < count (values c.args.self.now.buffer)
some c = mixed-some c.bit_buffer-buffer.result.now c.args.self.now.buffer c.args.self.now.true_count c.bit_buffer-buffer.ensures.buffer c.bit_buffer-buffer.ensures.mixed

last : (c : In-Some-cached_slices) → slice_get (positions (values c.args.self.now.buffer)) (count (values c.args.self.now.buffer) - 1) ≡ Some ((get_or c.in-Some-cached_slices.ranges.now (length c.in-Some-cached_slices.ranges.now - 1) (0, 0)).1 - 1)
last c = runs-last (values c.args.self.now.buffer) c.in-Some-cached_slices.ranges.now (0, 0) (are c) (some c)

pub overflow_sub-result-in-Some-cached_slices : goal.overflow_sub-result-in-Some-cached_slices
overflow_sub-result-in-Some-cached_slices c =
    runs-some (values c.args.self.now.buffer) c.in-Some-cached_slices.ranges.now
    (cached-runs (values c.args.self.now.buffer) c.args.self.now.caches c.in-Some-cached_slices.ranges.now c.in-Some-cached_slices.ensures.cached c.in-Some-cached_slices.ensures.whole)
    (mixed-some c.bit_buffer-buffer.result.now c.args.self.now.buffer c.args.self.now.true_count c.bit_buffer-buffer.ensures.buffer c.bit_buffer-buffer.ensures.mixed)

pub bounds-ranges-ranges : goal.bounds-ranges-ranges
bounds-ranges-ranges c =
    omega (
      arith,
      runs-some (values c.args.self.now.buffer) c.in-Some-cached_slices.ranges.now
          (cached-runs (values c.args.self.now.buffer) c.args.self.now.caches c.in-Some-cached_slices.ranges.now c.in-Some-cached_slices.ensures.cached c.in-Some-cached_slices.ensures.whole)
          (mixed-some c.bit_buffer-buffer.result.now c.args.self.now.buffer c.args.self.now.true_count c.bit_buffer-buffer.ensures.buffer c.bit_buffer-buffer.ensures.mixed),
    )

pub overflow_sub-result-in-Some-cached_slices-2 : goal.overflow_sub-result-in-Some-cached_slices-2
overflow_sub-result-in-Some-cached_slices-2 c = runs-end (values c.args.self.now.buffer) c.in-Some-cached_slices.ranges.now (0, 0) (are c) (some c)

pub returns-in-Some-cached_slices-clause-index : goal.returns-in-Some-cached_slices-clause-index
returns-in-Some-cached_slices-clause-index c = last c

pub returns-in-Some-cached_slices-clause-within : goal.returns-in-Some-cached_slices-clause-within
returns-in-Some-cached_slices-clause-within c = index-within (values c.args.self.now.buffer) (count (values c.args.self.now.buffer) - 1) _ (last c)
