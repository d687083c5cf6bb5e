-- `put_hex` meets its contract: the digits are sixteen, since fewer are filled up with zeros and 2^64 has no more.
use Rattle.std.proofs.Common.{◌≡◌, ◌∙◌, ap, arith, ℕ}
use Rattle.io.specs.Digits.{last_digits}
use Rattle.report.proofs.Texts.{hex_most, hex_digits}
use Rattle.report.proofs.Page.put_hex.Goals as goal

pub returns : goal.returns
returns c =
    let d = c.hex-k in
    let bits = c.args.bits in
    let whole : d.result ≡ 16 = hex_most d.result bits d.ensures.len (omega arith) in
    let text = d.ensures.digits ∙ ap (λ (k : ℕ). last_digits 16 k bits) whole ∙ hex_digits 16 bits in
    record { written = rw (← text) c.put_text.ensures; most = omega (arith, d.ensures.in_bounds.1) }
