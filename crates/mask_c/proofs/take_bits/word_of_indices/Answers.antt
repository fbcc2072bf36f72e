use Rattle.mask_c.proofs.Common.{ℕ, ◌+◌, ◌<◌, Bool, false, List, get_or, set, length, map, sym, ap, ◌∙◌, arith, take_all, backing_bit, length-set, get_or-replicate, length-replicate}
use Rattle.mask_c.proofs.TakeBitsLemmas.{bits-more}
use Rattle.mask_c.proofs.take_bits.word_of_indices.Goals as goal

pub loop-j-init : goal.loop-j-init
loop-j-init g c = record {
  len = length-replicate 64 false;
  each = λ k h. get_or-replicate 64 k false false h;
}

pub loop-j-preserved : goal.loop-j-preserved
loop-j-preserved g c =
    let bytes = c.args.bytes.now in
    let indices = c.args.indices.now in
    let bits = c.loop-j.bits in
    let j = c.loop-j.j in
    let f : g.row.N.Denot → Bool = λ i. backing_bit bytes (c.args.offset + g.N.RowIndex.row_number i) in
    let few : j < length indices = omega (arith, c.loop-j-test.true) in
    let room : j < length bits = omega (arith, few, c.requires.few, c.loop-j.invariant.len) in
    let is = c.bit.ensures ∙ ap (λ (n : ℕ). backing_bit bytes (c.args.offset + n)) c.get.ensures in
    record {
      len = omega (arith, length-set bits j c.bit.result, c.loop-j.invariant.len);
      each = λ k h. ap (λ (b : Bool). get_or (set bits j b) k false) is ∙ bits-more f indices bits j c.index-indices-j.result few (sym c.index-indices-j.is) room c.loop-j.invariant.each k h;
    }

pub returns : goal.returns
returns g c j h =
    c.word_of_bools.ensures j h
    ∙ c.loop-j.invariant.each j h
    ∙ ap (λ (xs : List g.row.N.Denot). get_or (map (λ i. backing_bit c.args.bytes.now (c.args.offset + g.N.RowIndex.row_number i)) xs) j false) (take_all c.loop-j.j c.args.indices.now (omega (arith, c.loop-j-test.false)))
