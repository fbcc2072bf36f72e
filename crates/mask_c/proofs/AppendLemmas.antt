-- Values written behind those of a bitmap: up to the end of their byte, and from the next byte on.
use Rattle.mask_c.proofs.Common.{front-taken, common_steps, get_or-set_at, ◌≡◌, ℕ, nat_eq, set, ◌^◌, ◌+◌, ◌-◌, ◌*◌, ◌/◌, ◌%◌, ◌<◌, ◌≤◌, Bool, false, List, ◌++◌, append-nil, length, get_or, take, drop, sym, ap, ap₂, ◌∙◌, inl, inr, arith, bit_at, div_ceil, bit_and, bit_or, cases_eq, drop_at, drop-drop, nil_from_length, ext_get_or, length-drop, length-take-le, one_shl, bit_at_or, bitmap, backing_bit, window, word_bits, AreClearBehind, get_or-set_other, bit-window, bitmap-append, bitmap-drop, length-bitmap, get_or-bitmap, front-same, get_or-put_mid_inside, bit_at-low_mask, bit_at-past_mask, bit_at-mod, bit_at-shl_low, bit_at-shl_high}
use Rattle.mask_c.proofs.LastLemmas.{front-appended}
use borrow.Rule.Slice.PartMut.{put_mid}

-- ---- a byte that is filled up

-- the byte, as the code computes it
abbrev pub begun : ℕ → ℕ → ℕ → ℕ
begun byte low word = bit_and (bit_or (bit_and byte (1 * 2 ^ low % 2 ^ 64 - 1)) (word * 2 ^ low % 2 ^ 64)) 255

begun-bit : (byte low word j : ℕ) → low < 8 → j < 8 → bit_at (begun byte low word) j ≡ bit_at (bit_or (bit_and byte (2 ^ low - 1)) (word * 2 ^ low % 2 ^ 64)) j
begun-bit byte low word j few h =
    bit_at-low_mask (bit_or (bit_and byte (1 * 2 ^ low % 2 ^ 64 - 1)) (word * 2 ^ low % 2 ^ 64)) 8 j h
    ∙ ap (λ n. bit_at (bit_or (bit_and byte (n - 1)) (word * 2 ^ low % 2 ^ 64)) j) (one_shl low 64 (omega arith))

pub begun-kept : (byte low word j : ℕ) → low < 8 → j < low → bit_at (begun byte low word) j ≡ bit_at byte j
begun-kept byte low word j few h =
    begun-bit byte low word j few (omega arith)
    ∙ omega (arith, bit_at_or (bit_and byte (2 ^ low - 1)) (word * 2 ^ low % 2 ^ 64) j, bit_at-low_mask byte low j h, bit_at-mod (word * 2 ^ low) 64 j (omega arith), bit_at-shl_low word low j h)

pub begun-put : (byte low word j : ℕ) → low + j < 8 → bit_at (begun byte low word) (low + j) ≡ bit_at word j
begun-put byte low word j few =
    let place : low + j - low ≡ j = omega arith in
    begun-bit byte low word (low + j) (omega arith) few
    ∙ omega (arith, bit_at_or (bit_and byte (2 ^ low - 1)) (word * 2 ^ low % 2 ^ 64) (low + j), bit_at-past_mask byte low (low + j) (omega arith), bit_at-mod (word * 2 ^ low) 64 (low + j) (omega arith), bit_at-shl_high word low (low + j) (omega arith), ap (bit_at word) place)

-- the values once it stands in the place of the last byte
pub filled-values : (bytes more : List ℕ) (len offset n word x : ℕ) → (len % 8 ≡ 0 → ⊥) → len % 8 + n ≤ 8 → len / 8 < length bytes → word_bits word ≡ window more offset
    → ((j : ℕ) → j < len % 8 → bit_at x j ≡ bit_at (get_or bytes (len / 8) 0) j) → ((j : ℕ) → len % 8 + j < 8 → bit_at x (len % 8 + j) ≡ bit_at word j)
    → bitmap (set bytes (len / 8) x) 0 (len + n) ≡ bitmap bytes 0 len ++ bitmap more offset n
filled-values bytes more len offset n word x part few inside read kept put =
    let new : List ℕ = set bytes (len / 8) x in
    let before : (p : ℕ) → p < len → backing_bit new p ≡ backing_bit bytes p = λ p h. elim (cases_eq (p / 8) (len / 8)) [
      | inl same ↦
          ap (λ z. nat_eq (bit_at z (p % 8)) 1) (get_or-set_at bytes (len / 8) (p / 8) x 0 same inside)
          ∙ ap (λ z. nat_eq z 1) (kept (p % 8) (omega arith))
          ∙ ap (λ k. nat_eq (bit_at (get_or bytes k 0) (p % 8)) 1) (sym same)
      | inr other ↦ ap (λ z. nat_eq (bit_at z (p % 8)) 1) (get_or-set_other bytes (len / 8) (p / 8) x 0 other)
    ] in
    let more_bits : bitmap new (0 + len) n ≡ bitmap more offset n
    = ext_get_or false (bitmap new (0 + len) n) (bitmap more offset n) (length-bitmap new (0 + len) n ∙ sym (length-bitmap more offset n)) (λ j h.
    let small : j < n = omega (arith, length-bitmap new (0 + len) n) in
    let byte : (0 + len + j) / 8 ≡ len / 8 = omega arith in
    let bit : (0 + len + j) % 8 ≡ len % 8 + j = omega arith in
    get_or-bitmap new (0 + len) n j false small
    ∙ ap₂ (λ z k. nat_eq (bit_at z k) 1) (get_or-set_at bytes (len / 8) ((0 + len + j) / 8) x 0 byte inside) bit
    ∙ ap (λ z. nat_eq z 1) (put j (omega arith))
    ∙ bit-window more offset word j read (omega arith)
    ∙ sym (get_or-bitmap more offset n j false small)) in
    bitmap-append new 0 len n
    ∙ ap₂ (λ (xs ys : List Bool). xs ++ ys) (front-same bytes new len before) more_bits

-- ---- bytes from byte k on that are written

put_from : (xs ys : List ℕ) (k : ℕ) → length ys ≡ length xs - k → put_mid k (length xs - k) xs ys ≡ take k xs ++ ys
put_from xs ys k len = grind (arith, common_steps, nil_from_length, length-drop, append-nil)

-- bytes ys from byte k of xs on are put behind n values, which end there
pub record ArePut (xs ys : List ℕ) (k n : ℕ) : Type 0 where
  pub room : k ≤ length xs
  pub len : length ys ≡ length xs - k
  pub full : n ≡ 8 * k

-- the values before them, and theirs
pub appended-values : (xs ys : List ℕ) (k n r : ℕ) (m more : List Bool) → ArePut xs ys k n → bitmap xs 0 n ≡ m → bitmap ys 0 r ≡ more → bitmap (put_mid k (length xs - k) xs ys) 0 (n + r) ≡ m ++ more
appended-values xs ys k n r m more put first second =
    let front : List ℕ = take k xs in
    let new : List ℕ = front ++ ys in
    let len : length front ≡ k = length-take-le k xs put.room in
    let place : 0 + n ≡ 8 * k = omega (arith, put.full) in
    ap (λ (us : List ℕ). bitmap us 0 (n + r)) (put_from xs ys k put.len)
    ∙ bitmap-append new 0 n r
    ∙ ap₂ (λ (us vs : List Bool). us ++ vs) (front-appended front ys n (omega (arith, len, put.full)) ∙ front-taken xs k n (omega (arith, put.full)) ∙ first)
    (ap (λ p. bitmap new p r) place ∙ sym (bitmap-drop new k r) ∙ ap (λ (us : List ℕ). bitmap us 0 r) (drop_at front ys k len) ∙ second)

-- the bits behind them
pub appended-clear : (xs ys : List ℕ) (k n r : ℕ) → ArePut xs ys k n → 0 < r → div_ceil r 8 ≤ length ys → AreClearBehind ys r → AreClearBehind (put_mid k (length xs - k) xs ys) (n + r)
appended-clear xs ys k n r put some covers second = λ p from to.
    let byte : p / 8 ≡ k + (p - 8 * k) / 8 = omega (arith, put.full) in
    let bit : p % 8 ≡ (p - 8 * k) % 8 = omega (arith, put.full) in
    ap₂ (λ i j. nat_eq (bit_at (get_or (put_mid k (length xs - k) xs ys) i 0) j) 1) byte bit
    ∙ ap (λ x. nat_eq (bit_at x ((p - 8 * k) % 8)) 1) (get_or-put_mid_inside k (length xs) xs ys ((p - 8 * k) / 8) put.room put.len (omega (arith, put.full, put.len)))
    ∙ second (p - 8 * k) (omega (arith, put.full)) (omega (arith, put.full))

-- and the bytes behind them
pub appended-behind : (old xs ys rest : List ℕ) (k n r : ℕ) → ArePut xs ys k n → rest ≡ drop k xs → drop k xs ≡ drop k old → drop (div_ceil r 8) ys ≡ drop (div_ceil r 8) rest
    → drop (div_ceil (n + r) 8) (put_mid k (length xs - k) xs ys) ≡ drop (div_ceil (n + r) 8) old
appended-behind old xs ys rest k n r put is same behind =
    let d : ℕ = div_ceil r 8 in
    let new : List ℕ = take k xs ++ ys in
    let at : div_ceil (n + r) 8 ≡ k + d = omega (arith, put.full) in
    ap₂ (λ (i : ℕ) (us : List ℕ). drop i us) at (put_from xs ys k put.len)
    ∙ sym (drop-drop d k new) ∙ ap (drop d) (drop_at (take k xs) ys k (length-take-le k xs put.room))
    ∙ behind ∙ ap (λ (us : List ℕ). drop d us) (is ∙ same) ∙ drop-drop d k old ∙ ap (λ (i : ℕ). drop i old) (sym at)
