use Rattle.std.proofs.Common.{◌≡◌, ℕ, List, length, take, drop, Result, Ok, Err, false, arith, refl, ap, ◌∙◌}
use Rattle.std.specs.Prelude.{OnOk, is_err}
use Rattle.std.proofs.lemmas.List.{length-drop, length-take-le}
use Rattle.nvd_media.specs.declared.object.Object.TheVariants as object
use Rattle.nvd_media.specs.Images.{bytes_of as bytes_in}
use Rattle.image_set.specs.Patches.{patched_row}
use Rattle.image_set.proofs.Patched.{row_covered}
use Rattle.image_set.proofs.copying.read_patched.Goals as goal
use Rattle.image_set.proofs.copying.read_patched.Goals.{then-not-covers+else-is_err, else-not-covers}

on_read : {T E P : Type 0} (r : Result T E) → is_err r ≡ false → OnOk r P → P
on_read (Ok x) is p = p
on_read (Err e) is p = absurd (let f = is in cc)

pub returns-clause-told : goal.returns-clause-told
returns-clause-told g c = λ set told.
    let f : ℕ → ℕ → ℕ → ℕ = g.P.Patch.patched c.args.patch.now in
    let m = c.args.«module» in
    let at = c.args.at in
    let n : ℕ = length c.args.piece.now in
    let bytes : List ℕ = bytes_in set (object.Contents m) in
    elim c.if-not-covers.branch [
      | then-not-covers+else-is_err w ↦
          c.patch.ensures
          ∙ ap (λ row. patched_row f m at row) (w.piece-is ∙ on_read w.read.result (let e = w.if-is_err.false in let v = w.is_err.ensures.value in cc) (w.read.ensures.told set told))
      | else-not-covers w ↦
          c.patch.ensures ∙ ap (λ row. patched_row f m at row) w.piece-is
          ∙ row_covered f m at n c.args.piece.now (take n (drop at bytes)) (c.covers.ensures w.if-not-covers.false) refl
          (length-take-le n (drop at bytes) (let inside = c.requires.there set told in omega (arith, length-drop at bytes, inside)))
    ]
