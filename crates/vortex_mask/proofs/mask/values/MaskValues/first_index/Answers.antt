use Rattle.vortex_mask.proofs.Common.{◌≡◌, ◌<◌, Some, get_or, slice_get, positions, count, values, runs}
use Rattle.vortex_mask.proofs.Masks.CachedLemmas.{cached-runs, mixed-some, runs-some, runs-first, index-within, first-found}
use Rattle.vortex_mask.proofs.mask.values.MaskValues.first_index.Goals as goal
use Rattle.vortex_mask.proofs.mask.values.MaskValues.first_index.Goals.{In-Some-cached_slices}

-- the ranges are the runs, and there is a true value
are : (c : In-Some-cached_slices) → c.in-Some-cached_slices.ranges.now ≡ runs (values c.args.self.now.buffer)
are c = cached-runs (values c.args.self.now.buffer) c.args.self.now.caches c.in-Some-cached_slices.ranges.now c.in-Some-cached_slices.ensures.cached c.in-Some-cached_slices.ensures.whole

some : (c : In-Some-cached_slices) → 0 < count (values c.args.self.now.buffer)
some c = mixed-some c.bit_buffer-buffer.result.now c.args.self.now.buffer c.args.self.now.true_count c.bit_buffer-buffer.ensures.buffer c.bit_buffer-buffer.ensures.mixed

first : (c : In-Some-cached_slices) → slice_get (positions (values c.args.self.now.buffer)) 0 ≡ Some (get_or c.in-Some-cached_slices.ranges.now 0 (0, 0)).0
first c = runs-first (values c.args.self.now.buffer) c.in-Some-cached_slices.ranges.now (0, 0) (are c) (some c)

pub bounds-ranges-0 : goal.bounds-ranges-0
bounds-ranges-0 c = runs-some (values c.args.self.now.buffer) c.in-Some-cached_slices.ranges.now (are c) (some c)

pub returns-in-Some-cached_slices-clause-index : goal.returns-in-Some-cached_slices-clause-index
returns-in-Some-cached_slices-clause-index c = first c

pub returns-in-Some-cached_slices-clause-within : goal.returns-in-Some-cached_slices-clause-within
returns-in-Some-cached_slices-clause-within c = index-within (values c.args.self.now.buffer) 0 _ (first c)

pub returns-in-None-clause-within : goal.returns-in-None-clause-within
returns-in-None-clause-within c =
    let some = mixed-some c.bit_buffer-buffer.result.now c.args.self.now.buffer c.args.self.now.true_count c.bit_buffer-buffer.ensures.buffer c.bit_buffer-buffer.ensures.mixed in
    index-within (values c.args.self.now.buffer) 0 _ (first-found (values c.args.self.now.buffer) c.first_from.result (rw c.bit_buffer-buffer.ensures.buffer at c.first_from.ensures) some)
