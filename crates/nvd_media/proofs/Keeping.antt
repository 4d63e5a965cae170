-- What an image set or a text in memory reveals that it stored.
use Rattle.std.proofs.Common.{◌≡◌, Bool, true, false, Option, Some, None, refl}
use Rattle.nvd_media.specs.Images.{Keeps}
use Rattle.nvd_media.specs.Memory.{while_whole}

-- if `whole` didn't change, what is revealed is related
pub still_whole : {A : Type 0} (whole : Bool) (was now : A) (R : A → A → Type 0) → R was now
    → Keeps (while_whole whole was) (while_whole whole now) R
still_whole true was now R holds after told =
    let same : now ≡ after = cc in
    (was, refl, rw (← same) holds)
still_whole false was now R holds after told = absurd (let none : None ≡ Some after = told in cc)
