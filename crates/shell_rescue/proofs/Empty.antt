-- A namespace without bytes: it has no info block.
use Rattle.std.proofs.Common.{◌≡◌, ◌∙◌, ℕ, Bool, List, [], ◌∷◌, refl, ap, sym, arith}
use Rattle.std.proofs.lemmas.List.Sums.{sum_by-cons}
use Rattle.nvd_words.specs.Checks.{first_fault}
use Rattle.arena_layout.specs.declared.info.InfoFault.TheVariants.{Signature}
use Rattle.arena_layout.specs.Info.{has_signature}
use Rattle.arena_check.specs.declared.info.InfoSource.TheVariants as source
use Rattle.arena_check.specs.Check.{source_of}
use Rattle.shell_rescue.specs.Lost.{count_in, lost_arenas, lost_in, lost_whole, lost_within}
use Rattle.shell_rescue.specs.Rescue.{arenas_within, rescued_arenas}

pub empty_source : (parent : List ℕ) → source_of [] parent ≡ source.Neither Signature
unfolding first_fault has_signature
empty_source parent = refl

pub empty_lost : (bad : ℕ → Bool) (parent : List ℕ) → lost_arenas bad [] parent ≡ lost_whole Signature ∷ []
unfolding lost_within first_fault has_signature
empty_lost bad parent = refl

pub empty_arenas : (bad : ℕ → Bool) (parent : List ℕ) → rescued_arenas bad [] parent ≡ []
unfolding arenas_within first_fault has_signature
empty_arenas bad parent = refl

pub empty_count : (bad : ℕ → Bool) (parent : List ℕ) → 1 ≡ count_in (lost_arenas bad [] parent)
empty_count bad parent =
    let one : 1 ≡ count_in (lost_whole Signature ∷ []) = omega (arith, sum_by-cons lost_in (lost_whole Signature) []) in
    one ∙ sym (ap count_in (empty_lost bad parent))
