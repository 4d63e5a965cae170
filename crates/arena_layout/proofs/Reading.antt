-- The info that was read, from its checks.
use Rattle.std.proofs.Common.{◌≡◌, ℕ, ◌+◌, ◌%◌, ◌<◌, ◌≤◌, Bool, true, false, not, eqb, ltb, List, [], ◌∷◌, Option, Some, None, Result, Ok, Err, refl, sym, subst, inl, inr, arith, ◌⊎◌}
use Rattle.std.specs.Prelude.{◌&&◌, ◌||◌, IfOk}
use Rattle.std.specs.Option.{option_map}
use Rattle.std.specs.Int.{w16, w32, w64}
use Rattle.std.proofs.lemmas.Bool.{and_parts, ltb-true, eqb-true, eqb-false, cases_eq}
use Rattle.std.proofs.lemmas.Slice.Eq.{bytes_eq-Decides}
use Rattle.nvd_words.specs.Bytes.{number_at}
use Rattle.nvd_words.specs.Checks.{first_fault, fault_if, value_unless}
use Rattle.arena_layout.specs.declared.layout.Layout.{Layout}
use Rattle.arena_layout.specs.declared.layout.LayoutField.{LayoutField}
use Rattle.arena_layout.specs.declared.layout.LayoutField.TheVariants as field
use Rattle.arena_layout.specs.declared.info.Info.{Info}
use Rattle.arena_layout.specs.declared.info.InfoFault.{InfoFault}
use Rattle.arena_layout.specs.declared.info.InfoFault.TheVariants as fault
use Rattle.arena_layout.specs.Layout.{least_size, IsLayout, has_sector, has_inner, has_lanes, has_blocks, has_pages, has_order, has_size, has_next}
use Rattle.arena_layout.specs.Info.{bytes_at, has_signature, has_checksum, is_version, has_parent, has_error, has_areas, layout_of, info_of, layout_fault_of, info_reading, IsArenaOf}
use Rattle.arena_layout.proofs.Passing.{passed_is, size_inside}

-- the layout is the first check that fails
pub layout_first : (bytes parent : List ℕ) (rest : ℕ) (field : LayoutField) → true ≡ has_signature bytes → true ≡ has_checksum bytes
    → true ≡ is_version (number_at w16 bytes 52) (number_at w16 bytes 54) → true ≡ has_parent bytes parent → false ≡ has_error bytes
    → Some field ≡ layout_fault_of bytes rest → Err (fault.Layout field) ≡ info_reading bytes parent rest
unfolding first_fault
layout_first bytes parent rest field a b c d e f = rw (← a, ← b, ← c, ← d, ← e, ← f) refl

-- ---- every check passed

not_none : {F : Type 0} (b : Bool) (f : F) → fault_if (not b) f ≡ None → b ≡ true
not_none true f e = refl
not_none false f e = cc

is_none : {F : Type 0} (b : Bool) (f : F) → fault_if b f ≡ None → b ≡ false
is_none true f e = cc
is_none false f e = refl

unmapped : {A B : Type 0} (f : A → B) (o : Option A) → option_map f o ≡ None → o ≡ None
unmapped f None e = refl
unmapped f (Some x) e = cc

six : {A F : Type 0} (v w : A) (a b c d e g : Option F) → value_unless v (first_fault (a ∷ b ∷ c ∷ d ∷ e ∷ g ∷ [])) ≡ Ok w
    → (a ≡ None) × (b ≡ None) × (c ≡ None) × (d ≡ None) × (e ≡ None) × (g ≡ None) × (v ≡ w)
unfolding first_fault
six v w (Some f) b c d e g h = cc
six v w None (Some f) c d e g h = cc
six v w None None (Some f) d e g h = cc
six v w None None None (Some f) e g h = cc
six v w None None None None (Some f) g h = cc
six v w None None None None None (Some f) h = cc
six v w None None None None None None h = (refl, refl, refl, refl, refl, refl, cc)

seven : {F : Type 0} (a b c d e g h : Option F) → first_fault (a ∷ b ∷ c ∷ d ∷ e ∷ g ∷ h ∷ []) ≡ None
    → (a ≡ None) × (b ≡ None) × (c ≡ None) × (d ≡ None) × (e ≡ None) × (g ≡ None) × (h ≡ None)
unfolding first_fault
seven (Some f) b c d e g h i = cc
seven None (Some f) c d e g h i = cc
seven None None (Some f) d e g h i = cc
seven None None None (Some f) e g h i = cc
seven None None None None (Some f) g h i = cc
seven None None None None None (Some f) h i = cc
seven None None None None None None (Some f) i = cc
seven None None None None None None None i = (refl, refl, refl, refl, refl, refl, refl)

pub record PassesLayout (bytes : List ℕ) (rest : ℕ) : Type 0 where
  pub sector : has_sector (layout_of bytes) ≡ true
  pub inner : has_inner (layout_of bytes) ≡ true
  pub lanes : has_lanes (layout_of bytes) ≡ true
  pub blocks : has_blocks (layout_of bytes) ≡ true
  pub areas : has_areas bytes ≡ true
  pub size : has_size (layout_of bytes) rest ≡ true
  pub next : has_next (layout_of bytes) (number_at w64 bytes 80) rest ≡ true

layout_passed : (bytes : List ℕ) (rest : ℕ) → layout_fault_of bytes rest ≡ None → PassesLayout bytes rest
unfolding layout_fault_of
layout_passed bytes rest none =
    let t = seven (fault_if (not (has_sector (layout_of bytes))) field.Sector) (fault_if (not (has_inner (layout_of bytes))) field.Inner)
    (fault_if (not (has_lanes (layout_of bytes))) field.Free) (fault_if (not (has_blocks (layout_of bytes))) field.Blocks)
    (fault_if (not (has_areas bytes)) field.Areas) (fault_if (not (has_size (layout_of bytes) rest)) field.Size)
    (fault_if (not (has_next (layout_of bytes) (number_at w64 bytes 80) rest)) field.Next) none in
    record {
      sector = not_none (has_sector (layout_of bytes)) field.Sector t.0;
      inner = not_none (has_inner (layout_of bytes)) field.Inner t.1;
      lanes = not_none (has_lanes (layout_of bytes)) field.Free t.2;
      blocks = not_none (has_blocks (layout_of bytes)) field.Blocks t.3;
      areas = not_none (has_areas bytes) field.Areas t.4;
      size = not_none (has_size (layout_of bytes) rest) field.Size t.5;
      next = not_none (has_next (layout_of bytes) (number_at w64 bytes 80) rest) field.Next t.6;
    }

pub record PassesAll (bytes parent : List ℕ) (rest : ℕ) (info : Info) : Type 0 where
  pub signature_is : has_signature bytes ≡ true
  pub checksum_is : has_checksum bytes ≡ true
  pub version_is : is_version (number_at w16 bytes 52) (number_at w16 bytes 54) ≡ true
  pub parent_is : has_parent bytes parent ≡ true
  pub no_error : has_error bytes ≡ false
  pub layout_is : PassesLayout bytes rest
  pub info_is : info_of bytes ≡ info

pub all_passed : (bytes parent : List ℕ) (rest : ℕ) (info : Info) → info_reading bytes parent rest ≡ Ok info → PassesAll bytes parent rest info
all_passed bytes parent rest info e =
    let major : ℕ = number_at w16 bytes 52 in
    let minor : ℕ = number_at w16 bytes 54 in
    let t = six (info_of bytes) info (fault_if (not (has_signature bytes)) fault.Signature) (fault_if (not (has_checksum bytes)) fault.Checksum)
    (fault_if (not (is_version major minor)) (fault.Version major minor)) (fault_if (not (has_parent bytes parent)) fault.Parent)
    (fault_if (has_error bytes) fault.ErrorState) (option_map fault.Layout (layout_fault_of bytes rest)) e in
    record {
      signature_is = not_none (has_signature bytes) fault.Signature t.0;
      checksum_is = not_none (has_checksum bytes) fault.Checksum t.1;
      version_is = not_none (is_version major minor) (fault.Version major minor) t.2;
      parent_is = not_none (has_parent bytes parent) fault.Parent t.3;
      no_error = is_none (has_error bytes) fault.ErrorState t.4;
      layout_is = layout_passed bytes rest (unmapped fault.Layout (layout_fault_of bytes rest) t.5);
      info_is = t.6;
    }

-- ---- an info that was read is valid

pub parts_of_areas : (bytes : List ℕ) → has_areas bytes ≡ true → (number_at w32 bytes 76 ≡ 4096) × (has_pages (layout_of bytes) ≡ true) × (has_order (layout_of bytes) ≡ true)
unfolding has_areas
parts_of_areas bytes e =
    let p = and_parts (eqb (number_at w32 bytes 76) 4096 && has_pages (layout_of bytes)) (has_order (layout_of bytes)) e in
    let q = and_parts (eqb (number_at w32 bytes 76) 4096) (has_pages (layout_of bytes)) p.0 in
    (eqb-true (number_at w32 bytes 76) 4096 q.0, q.1, p.1)

size_of_layout : (bytes : List ℕ) → (layout_of bytes).size ≡ (layout_of bytes).info_off + 4096
unfolding layout_of
size_of_layout bytes = refl

layout_sound : (bytes : List ℕ) (rest : ℕ) → PassesLayout bytes rest → IsLayout (layout_of bytes)
layout_sound bytes rest ok =
    let a = parts_of_areas bytes ok.areas in
    passed_is (layout_of bytes) rest (record { sector = ok.sector; inner = ok.inner; lanes = ok.lanes; blocks = ok.blocks; pages = a.1; order = a.2 }) ok.size (size_of_layout bytes)

next_by : (zero' same below : Bool) → (zero' || (same && below)) ≡ true → ((zero' || same) ≡ true) × ((zero' ≡ true) ⊎ (below ≡ true))
next_by true same below e = (refl, inl refl)
next_by false true true e = (refl, inr refl)
next_by false true false e = cc
next_by false false below e = cc

next_sound : (l : Layout) (next rest : ℕ) → l.size ≤ rest → least_size ≤ l.size → has_next l next rest ≡ true → (((eqb next 0) || (eqb next l.size)) ≡ true) × (next < rest)
unfolding has_next
next_sound l next rest inside low e =
    let p = next_by (eqb next 0) (eqb next l.size) (ltb next rest) e in
    (p.0, elim p.1 [ inl z ↦ omega (arith, eqb-true next 0 z) | inr b ↦ ltb-true next rest b ])

even_of : (n : ℕ) → (n % 2 ≡ 1 → ⊥) → n % 2 ≡ 0
even_of n odd = elim (cases_eq (n % 2) 1) [ inl e ↦ absurd (odd e) | inr ne ↦ omega (arith, ne) ]

pub parent_same : (bytes parent : List ℕ) → has_parent bytes parent ≡ true → bytes_at bytes 32 16 ≡ parent
unfolding has_parent
parent_same bytes parent e = (bytes_eq-Decides (bytes_at bytes 32 16) parent).0 e

pub flags_even : (bytes : List ℕ) → has_error bytes ≡ false → number_at w32 bytes 48 % 2 ≡ 0
unfolding has_error
flags_even bytes e = let odd = eqb-false (number_at w32 bytes 48 % 2) 1 e in even_of (number_at w32 bytes 48) odd

pub sound_info : (bytes parent : List ℕ) (rest : ℕ) (info : Info) → PassesAll bytes parent rest info → IsArenaOf parent rest (info_of bytes)
unfolding info_of
sound_info bytes parent rest info ok =
    let layout = layout_sound bytes rest ok.layout_is in
    let inside = size_inside (layout_of bytes) rest ok.layout_is.size in
    let next = next_sound (layout_of bytes) (number_at w64 bytes 80) rest inside layout.size_low ok.layout_is.next in
    record {
      sound = record { layout = layout; flags = flags_even bytes ok.no_error; version = ok.version_is; next = next.0 };
      parent_is = parent_same bytes parent ok.parent_is;
      size_inside = inside;
      next_inside = next.1;
    }

pub sound_at : (bytes parent : List ℕ) (rest : ℕ) (r : Result Info InfoFault) → r ≡ info_reading bytes parent rest → IfOk r (IsArenaOf parent rest)
sound_at bytes parent rest (Ok info) e =
    let ok = all_passed bytes parent rest info (sym e) in
    subst (IsArenaOf parent rest) ok.info_is (sound_info bytes parent rest info ok)
sound_at bytes parent rest (Err f) e = tt
