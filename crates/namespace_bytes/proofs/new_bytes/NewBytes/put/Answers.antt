use Rattle.std.proofs.Common.{◌≡◌, ℕ, ◌+◌, ◌<◌, ◌≤◌, List, length, take, drop, get_or, sym, ap, ◌∙◌, subst, arith}
use Rattle.std.proofs.lemmas.List.{ext_get_or, get_or-drop, get_or-take, length-drop, length-take-le}
use Rattle.namespace_bytes.specs.declared.new_bytes.NewBytes.{NewBytes}
use Rattle.namespace_bytes.specs.Patching.{IsFor, new_of}
use Rattle.namespace_bytes.specs.Changed.{changed_from}
use Rattle.namespace_bytes.proofs.Patched.{at_row, length_row}
use Rattle.namespace_bytes.proofs.new_bytes.NewBytes.put.Goals as goal

-- a part of the bytes in place of a piece
part : (bytes piece : List ℕ) (from : ℕ) → from + length piece ≤ length bytes → take (length piece) (drop from bytes) ≡ changed_from (λ i old. get_or bytes i 0) from piece
part bytes piece from fits =
    let long : length (take (length piece) (drop from bytes)) ≡ length piece = length-take-le (length piece) (drop from bytes) (omega (arith, length-drop from bytes, fits)) in
    let new = changed_from (λ i old. get_or bytes i 0) from piece in
    ext_get_or 0 (take (length piece) (drop from bytes)) new (long ∙ sym (length_row (λ m i old. get_or bytes i 0) 0 from piece)) (λ j lt.
    let less = (let l : j < length piece = omega (arith, lt, long) in l) in
    get_or-take (length piece) (drop from bytes) j 0 less ∙ get_or-drop from bytes j 0 ∙ sym (at_row (λ m i old. get_or bytes i 0) 0 from piece j less))

pub returns-in-Raw : goal.returns-in-Raw
returns-in-Raw c =
    let long : length c.in-Raw.bytes ≡ c.requires.inside.0 = subst (λ (n : NewBytes). IsFor n c.requires.inside.0) c.in-Raw.is c.requires.inside.1 in
    c.copy_from_slice.ensures.after
    ∙ ap (λ (n : ℕ). take n (drop c.args.from c.as_slice.result.now)) (omega arith)
    ∙ ap (λ (bytes : List ℕ). take (length c.args.piece.now) (drop c.args.from bytes)) c.as_slice.ensures
    ∙ part c.in-Raw.bytes c.args.piece.now c.args.from (omega (arith, long, c.requires.inside.2))
    ∙ sym (ap (λ (n : NewBytes). changed_from (new_of n) c.args.from c.args.piece.now) c.in-Raw.is)
