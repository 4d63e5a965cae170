-- Names that occur twice.
use Rattle.std.proofs.Common.{◌≡◌, ℕ, Bool, cond, eqb, ◌==◌, ◌&&◌, List, [], ◌∷◌, Option, Some, None, refl, sym, inl, inr}
use Rattle.std.specs.Option.{is_some, option_or}
use Rattle.std.specs.List.{list_any, filter_map}
use Rattle.std.proofs.lemmas.Bool.{cases_Bool}
use Rattle.nfit_reader.specs.declared.table.NfitFault.{NfitFault}
use Rattle.nfit_reader.specs.declared.table.NfitFault.TheVariants as fault
use Rattle.nfit_reader.specs.declared.structures.Structure.{Structure}
use Rattle.nfit_reader.specs.declared.structures.Structure.TheVariants as structure
use Rattle.nfit_reader.specs.declared.structures.Range.{Range}
use Rattle.nfit_reader.specs.declared.structures.Interleave.{Interleave}
use Rattle.nfit_reader.specs.declared.structures.Control.{Control}
use Rattle.nfit_reader.specs.Table.{range_named, lines_named, identity_named, name_of, twice_in}
use Rattle.nfit_reader.specs.Names.{again_in}

-- a list of structures has a name
abbrev pub has_name : ℕ → ℕ → List Structure → Bool
has_name kind index structures = list_any (λ other. (other.0 == kind) && (other.1 == index)) (filter_map name_of structures)

pub has_range : (index : ℕ) (structures : List Structure) → has_name 0 index structures ≡ is_some (range_named structures index)
has_range index [] = refl
has_range index (structure.Range r ∷ rest) = elim (cases_Bool (eqb r.index index)) [ inl same ↦ rw same refl | inr other ↦ rw other (has_range index rest) ]
has_range index (structure.Mapping m ∷ rest) = has_range index rest
has_range index (structure.Interleave i ∷ rest) = has_range index rest
has_range index (structure.Control c ∷ rest) = has_range index rest
has_range index (structure.PassedOver ∷ rest) = has_range index rest

pub has_interleave : (index : ℕ) (structures : List Structure) → has_name 2 index structures ≡ is_some (lines_named structures index)
has_interleave index [] = refl
has_interleave index (structure.Range r ∷ rest) = has_interleave index rest
has_interleave index (structure.Mapping m ∷ rest) = has_interleave index rest
has_interleave index (structure.Interleave i ∷ rest) = elim (cases_Bool (eqb i.index index)) [ inl same ↦ rw same refl | inr other ↦ rw other (has_interleave index rest) ]
has_interleave index (structure.Control c ∷ rest) = has_interleave index rest
has_interleave index (structure.PassedOver ∷ rest) = has_interleave index rest

pub has_control : (index : ℕ) (structures : List Structure) → has_name 4 index structures ≡ is_some (identity_named structures index)
has_control index [] = refl
has_control index (structure.Range r ∷ rest) = has_control index rest
has_control index (structure.Mapping m ∷ rest) = has_control index rest
has_control index (structure.Interleave i ∷ rest) = has_control index rest
has_control index (structure.Control c ∷ rest) = elim (cases_Bool (eqb c.index index)) [ inl same ↦ rw same refl | inr other ↦ rw other (has_control index rest) ]
has_control index (structure.PassedOver ∷ rest) = has_control index rest

-- the first name that occurs again, with one more structure in front
pub twice_in-front : (s : Structure) (rest : List Structure) → twice_in (filter_map name_of (s ∷ rest)) ≡ option_or (again_in s rest) (twice_in (filter_map name_of rest))
unfolding twice_in again_in
twice_in-front (structure.Range r) rest = elim (cases_Bool (has_name 0 r.index rest)) [ inl again ↦ rw again refl | inr new ↦ rw new refl ]
twice_in-front (structure.Mapping m) rest = refl
twice_in-front (structure.Interleave i) rest = elim (cases_Bool (has_name 2 i.index rest)) [ inl again ↦ rw again refl | inr new ↦ rw new refl ]
twice_in-front (structure.Control c) rest = elim (cases_Bool (has_name 4 c.index rest)) [ inl again ↦ rw again refl | inr new ↦ rw new refl ]
twice_in-front structure.PassedOver rest = refl

-- the lookups in the three maps for the name of a structure
pub again_range : (s : Structure) (r : Range) (rest : List Structure) (again : Bool) → s ≡ structure.Range r → again ≡ is_some (range_named rest r.index)
    → cond again (Some (fault.TwiceIndex 0 r.index)) None ≡ again_in s rest
unfolding again_in
again_range s r rest again is e = rw (is, e, ← has_range r.index rest) refl

pub again_interleave : (s : Structure) (i : Interleave) (rest : List Structure) (again : Bool) → s ≡ structure.Interleave i → again ≡ is_some (lines_named rest i.index)
    → cond again (Some (fault.TwiceIndex 2 i.index)) None ≡ again_in s rest
unfolding again_in
again_interleave s i rest again is e = rw (is, e, ← has_interleave i.index rest) refl

pub again_control : (s : Structure) (k : Control) (rest : List Structure) (again : Bool) → s ≡ structure.Control k → again ≡ is_some (identity_named rest k.index)
    → cond again (Some (fault.TwiceIndex 4 k.index)) None ≡ again_in s rest
unfolding again_in
again_control s k rest again is e = rw (is, e, ← has_control k.index rest) refl

pub again_or_same : (again twice : Option NfitFault) (s : Structure) (rest : List Structure) → again ≡ again_in s rest → twice ≡ twice_in (filter_map name_of rest)
    → option_or again twice ≡ twice_in (filter_map name_of (s ∷ rest))
again_or_same again twice s rest e f = rw (e, f) (sym (twice_in-front s rest))
