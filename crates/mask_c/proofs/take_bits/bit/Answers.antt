use Rattle.mask_c.proofs.Common.{◌/◌, ◌%◌, nat_eq, ℕ, ap, sym, shr_and_one, get_or_from_slice_get, bit_at}
use Rattle.mask_c.proofs.take_bits.bit.Goals as goal

pub returns : goal.returns
returns c =
    let at = c.args.position % 8 in
    rw (shr_and_one c.item.result at) (ap (λ (byte : ℕ). nat_eq (bit_at byte at) 1) (sym (get_or_from_slice_get c.args.bytes.now (c.args.position / 8) c.item.result 0 c.item.ensures)))
