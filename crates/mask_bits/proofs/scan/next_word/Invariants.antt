use Rattle.mask_bits.proofs.Common.{◌≡◌, ◌-◌, length, left_of, IsLeft, started_words}
use Rattle.mask_bits.proofs.scan.next_word.Given as goal

-- the words so far had nothing left
abbrev pub invariant-loop-word : goal.invariant-loop-word
invariant-loop-word l = record {
  is_left : IsLeft l.chunks l.at l.word;
  same : left_of l.chunks l.at l.word ≡ left_of l.fn.chunks l.fn.at l.fn.word;
}

abbrev pub decreases-loop-word : goal.decreases-loop-word
decreases-loop-word l = started_words (length l.chunks) - l.at
