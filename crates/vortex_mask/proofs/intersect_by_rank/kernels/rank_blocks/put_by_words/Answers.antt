use Rattle.vortex_mask.proofs.Common.{◌≡◌, ◌+◌, ◌-◌, ◌*◌, Bool, List, false, nat_eq, get_or, inl, inr, sym, ap, ◌∙◌, arith, list_any, cases_lt, backing_bit, get_or-window}
use Rattle.vortex_mask.proofs.intersect_by_rank.kernels.rank_blocks.put_by_words.Goals as goal

pub loop-i-preserved : goal.loop-i-preserved
loop-i-preserved c = record {
  place = omega (arith, c.saturating_add-end.ensures, c.loop-i.invariant.place);
  split = c.bits_of_ranks-word.ensures.passed;
  bits = λ k h small. elim (cases_lt k (64 * c.loop-i.i)) [
    | inl earlier ↦ c.set_word.ensures.others k (inl earlier) ∙ c.loop-i.invariant.bits k earlier small
    | inr past ↦
        let j = k - 64 * c.loop-i.i in
        let e : 64 * c.loop-i.i + j ≡ k = omega arith in
        let e₂ : c.loop-i.at + j ≡ c.args.base + k = omega (arith, c.loop-i.invariant.place) in
        ap (backing_bit c.set_word.new.bytes) (sym e) ∙ sym (get_or-window c.set_word.new.bytes (64 * c.loop-i.i) j false (omega arith))
        ∙ ap (λ (x : List Bool). get_or x j false) c.set_word.ensures.here
        ∙ c.bits_of_ranks-word.ensures.bits j (omega (arith, c.saturating_add-end.ensures, e₂))
        ∙ ap (λ n. list_any (nat_eq n) c.args.ranks.now) e₂
  ];
}
