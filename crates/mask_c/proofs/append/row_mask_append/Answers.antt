use Rattle.mask_c.proofs.Common.{ℕ, Bool, List, ◌≡◌, ◌+◌, ◌-◌, ◌++◌, length, drop, append_assoc, subst, sym, ap, ◌∙◌, arith, div_ceil, length-drop, take_rest, bitmap, AreClearBehind, bitmap-append}
use Rattle.mask_c.proofs.AppendLemmas.{ArePut, appended-values, appended-clear, appended-behind}
use borrow.Rule.Slice.PartMut.{put_mid}
use Rattle.mask_c.proofs.append.row_mask_append.Goals as goal
use Rattle.mask_c.proofs.append.row_mask_append.Goals.{After-row_mask_copy}

put : (c : After-row_mask_copy) → ArePut c.fill_last-filled.new.bytes c.row_mask_copy.new.out c.div_ceil.result (c.args.len + c.fill_last-filled.result)
put c =
    let xs = c.fill_last-filled.new.bytes in
    let k = c.div_ceil.result in
    record {
      room = omega (arith, c.div_ceil.ensures, c.fill_last-filled.auto.bytes, c.requires.room);
      len = c.row_mask_copy.auto.out ∙ ap (λ (us : List ℕ). length us) (take_rest xs k) ∙ length-drop k xs;
      full = omega (arith, c.div_ceil.ensures, c.fill_last-filled.ensures.count, c.if-filled-more_len.false);
    }

pub returns-clause-values : goal.returns-clause-values
returns-clause-values c =
    let old = c.args.bytes.now in
    let more = c.args.more.now in
    let offset = c.args.more_offset in
    let len = c.args.len in
    let filled = c.fill_last-filled.result in
    let rest = c.args.more_len - filled in
    let all : len + c.args.more_len ≡ len + filled + rest = omega (arith, c.fill_last-filled.ensures.count) in
    let each : filled + rest ≡ c.args.more_len = omega (arith, c.fill_last-filled.ensures.count) in
    ap (bitmap _ 0) all
    ∙ appended-values _ _ _ (len + filled) rest _ _ (put (goal.at.returns-clause-values c).After-row_mask_copy) c.fill_last-filled.ensures.values c.row_mask_copy.ensures.values
    ∙ append_assoc (bitmap old 0 len) (bitmap more offset filled) (bitmap more (offset + filled) rest)
    ∙ ap (λ (us : List Bool). bitmap old 0 len ++ us) (sym (bitmap-append more offset filled rest) ∙ ap (bitmap more offset) each)

pub returns-clause-clear : goal.returns-clause-clear
returns-clause-clear c =
    let all : c.args.len + c.fill_last-filled.result + (c.args.more_len - c.fill_last-filled.result) ≡ c.args.len + c.args.more_len = omega (arith, c.fill_last-filled.ensures.count) in
    let p = put (goal.at.returns-clause-clear c).After-row_mask_copy in
    subst (AreClearBehind _) all (appended-clear _ _ _ _ _ p (omega (arith, c.fill_last-filled.ensures.count, c.if-filled-more_len.false))
    (omega (arith, p.len, p.room, p.full, c.fill_last-filled.auto.bytes, c.fill_last-filled.ensures.count, c.requires.room)) c.row_mask_copy.ensures.clear)

pub returns-clause-behind : goal.returns-clause-behind
returns-clause-behind c =
    let old = c.args.bytes.now in
    let xs = c.fill_last-filled.new.bytes in
    let k = c.div_ceil.result in
    let all : c.args.len + c.fill_last-filled.result + (c.args.more_len - c.fill_last-filled.result) ≡ c.args.len + c.args.more_len = omega (arith, c.fill_last-filled.ensures.count) in
    subst (λ n. drop (div_ceil n 8) (put_mid k (length xs - k) xs c.row_mask_copy.new.out) ≡ drop (div_ceil n 8) old) all
    (appended-behind old xs _ _ k _ _ (put (goal.at.returns-clause-behind c).After-row_mask_copy) (take_rest xs k) (subst (λ n. drop n xs ≡ drop n old) (sym c.div_ceil.ensures) c.fill_last-filled.ensures.behind) c.row_mask_copy.ensures.behind)
