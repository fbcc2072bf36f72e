use Rattle.mask_bits.proofs.Common.{◌≡◌, ◌+◌, ◌/◌, ◌≤◌, ◌∙◌, ◌++◌, ℕ, List, ap, ap₂, sym, subst, arith, map, take, drop, length, length-map, length-take, length-drop, map-append, take-map, drop-map, AreSplit}
use Rattle.mask_bits.proofs.Lists.CommonLemmas.{found-joined, take-moved}
use Rattle.mask_bits.proofs.common_indices.merge.Goals as goal

pub returns : goal.returns
returns g c =
    let row = g.N.RowIndex.row_number in
    let xs : List ℕ = map row c.args.list.now in
    let ys : List ℕ = map row c.args.other.now in
    let merged : List g.row.N.Denot = c.merge_parts-first.new.list in
    let moved : List g.row.N.Denot = c.copy_within.new.self in
    let at : ℕ = length c.args.list.now / 2 in
    let place : ℕ = c.place_between-place.result in
    let first : ℕ = c.merge_parts-first.result.0 in
    let last : ℕ = c.merge_parts-first.result.1 in
    let parts = c.merge_parts-first.ensures in
    let len : length merged ≡ length c.args.list.now = c.merge_parts-first.auto.list in
    let few : first ≤ at = omega (arith, parts.first.within, length-take at (map row merged)) in
    let inside : at + last ≤ length merged = omega (arith, parts.last.within, length-drop at (map row merged), length-map merged row, c.requires) in
    found-joined xs ys (map row merged) (map row moved) at place first last (omega (arith, length-map c.args.list.now row, c.requires)) (omega (arith, length-map c.args.other.now row, c.place_between-place.ensures.within))
    (λ b. subst (AreSplit ys place) (sym c.number_at.ensures.index) (c.place_between-place.ensures.split b (λ k h. absurd (omega arith)) (λ k h within. absurd (omega arith))))
    parts.first parts.last
    (length-map moved row ∙ c.copy_within.ensures.len ∙ sym (length-map merged row))
    (length-map merged row ∙ len ∙ sym (length-map c.args.list.now row))
    (take-map row (first + last) moved
    ∙ ap (λ zs. map row (take (first + last) zs)) c.copy_within.ensures.after
    ∙ ap (map row) (take-moved merged at first last few inside)
    ∙ map-append row (take first merged) (take last (drop at merged))
    ∙ ap₂ (λ zs ws. zs ++ ws) (sym (take-map row first merged)) (sym (take-map row last (drop at merged)) ∙ ap (take last) (sym (drop-map row at merged))))
