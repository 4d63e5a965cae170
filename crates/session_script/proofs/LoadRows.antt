-- Worked examples of made scripts.
use Rattle.std.proofs.Common.{◌≡◌, [], ◌∷◌, None, refl}
use Rattle.nvd_media.specs.Choosers.{next_of}
use Rattle.session_script.specs.declared.payload.Payload.TheVariants.{Fill}
use Rattle.session_script.specs.declared.script.Line.TheVariants.{Read, Write, Order}
use Rattle.session_script.specs.declared.script.Order.TheVariants.{Open, Close}
use Rattle.session_script.specs.Load.{load_script}

-- from 0 the generator comes to its increment, that of Knuth's MMIX
pub first_number : next_of 0 ≡ 0x14057B7EF767814F
first_number = refl

-- two sessions of one call each on 64,716 sectors
pub two_calls : load_script 0 (7 ∷ []) 64716 2 1 ≡ record {
  labelcut = None;
  sessions =
      record { cut = None; calls = Order (Open (7 ∷ [])) ∷ Write 27574 (Fill 0x14) ∷ Order Close ∷ [] }
      ∷ record { cut = None; calls = Order (Open (7 ∷ [])) ∷ Read 24565 ∷ Order Close ∷ [] }
      ∷ [];
}
two_calls = refl
