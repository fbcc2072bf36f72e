use Rattle.vortex_mask.proofs.Common.{◌≡◌, ℕ, List, Bool, length, take, ◌++◌, ap, ◌∙◌, arith, common_steps, take_at, values, positions, true_at, at_indices, length-bitmap}
use Rattle.vortex_mask.proofs.Lists.PlaceListLemmas.{positions-at_indices, count-at_indices}
use Rattle.vortex_mask.proofs.intersect_by_rank.kernels.rank_indices.intersect_bit_buffer_by_rank_indices_with.Goals as goal

-- what is written, as the words are lent out and given back
written : (out rest : List ℕ) (size len : ℕ) (a m : List Bool) (qs : List ℕ) → length out ≡ size → m ≡ a → len ≡ length a
    → values (record { bytes = out; offset = 0; len = length m }) ≡ true_at (length m) (at_indices (positions m) qs)
    → values (record { bytes = take size (out ++ rest); offset = 0; len = len }) ≡ true_at (length a) (at_indices (positions a) qs)
written out rest size len a m qs whole same is_len list = grind (arith, common_steps, take_at)

pub of_words-requires-clause-counted : goal.of_words-requires-clause-counted
of_words-requires-clause-counted g c = grind (arith, written, count-at_indices)

pub returns-clause-len : goal.returns-clause-len
returns-clause-len g c = ap length c.in_ok-of_words.ensures.list ∙ length-bitmap _ 0 c.len-len.result ∙ c.len-len.ensures

pub returns-clause-true_indices : goal.returns-clause-true_indices
returns-clause-true_indices g c = grind (arith, written, positions-at_indices)
