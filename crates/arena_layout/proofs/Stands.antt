-- Bytes are read exactly if they encode an info.
use Rattle.std.proofs.Common.{◌≡◌, ℕ, ◌%◌, true, false, List, take, None, Result, Ok, refl, sym, ap, ◌∙◌, subst, arith}
use Rattle.std.specs.Int.{w16, w32, w64}
use Rattle.std.proofs.lemmas.Bool.{eq-eqb, ne_eqb, eqb-true}
use Rattle.std.proofs.lemmas.Slice.Eq.{bytes_eq-Decides}
use Rattle.nvd_words.specs.Bytes.{number_at}
use Rattle.nvd_words.specs.Checks.{first_fault}
use Rattle.nvd_words.specs.Fletcher.{fletcher64_of, without_eight}
use Rattle.arena_layout.specs.declared.info.Info.{Info}
use Rattle.arena_layout.specs.declared.info.InfoFault.{InfoFault}
use Rattle.arena_layout.specs.Info.{signature, bytes_at, has_signature, has_checksum, has_parent, has_error, has_areas, is_version, layout_of, info_of, layout_fault_of, info_reading, IsArenaOf, StandsFor, IsReading}
use Rattle.arena_layout.specs.Layout.{has_size, has_next}
use Rattle.arena_layout.proofs.Passing.{tests, Passes, size_passes, next_passes}
use Rattle.arena_layout.proofs.Reading.{PassesAll, all_passed, parts_of_areas, sound_info}

signature_is : (bytes : List ℕ) → has_signature bytes ≡ true → take 16 bytes ≡ signature
unfolding has_signature
signature_is bytes e = (bytes_eq-Decides (take 16 bytes) signature).0 e

checksum_is : (bytes : List ℕ) → has_checksum bytes ≡ true → number_at w64 bytes 4088 ≡ fletcher64_of (without_eight bytes 4088)
unfolding has_checksum
checksum_is bytes e = eqb-true (number_at w64 bytes 4088) (fletcher64_of (without_eight bytes 4088)) e

stands : (bytes parent : List ℕ) (rest : ℕ) (info : Info) → PassesAll bytes parent rest info → StandsFor bytes parent rest info
stands bytes parent rest info ok = record {
  signature_is = signature_is bytes ok.signature_is;
  checksum_is = checksum_is bytes ok.checksum_is;
  info_size = (parts_of_areas bytes ok.layout_is.areas).0;
  fields = ok.info_is;
  sound = subst (IsArenaOf parent rest) ok.info_is (sound_info bytes parent rest info ok);
}

-- ---- the other way

signed : (bytes : List ℕ) → take 16 bytes ≡ signature → has_signature bytes ≡ true
unfolding has_signature
signed bytes e = (bytes_eq-Decides (take 16 bytes) signature).1 e

summed : (bytes : List ℕ) → number_at w64 bytes 4088 ≡ fletcher64_of (without_eight bytes 4088) → has_checksum bytes ≡ true
unfolding has_checksum
summed bytes e = eq-eqb (number_at w64 bytes 4088) (fletcher64_of (without_eight bytes 4088)) e

-- the facts that an info has about its bytes
record Said (bytes parent : List ℕ) (rest : ℕ) : Type 0 where
  parent_is : has_parent bytes parent ≡ true
  no_error : has_error bytes ≡ false
  version_is : is_version (number_at w16 bytes 52) (number_at w16 bytes 54) ≡ true
  passes : Passes (layout_of bytes)
  size_is : has_size (layout_of bytes) rest ≡ true
  next_is : has_next (layout_of bytes) (number_at w64 bytes 80) rest ≡ true

said : (bytes parent : List ℕ) (rest : ℕ) → IsArenaOf parent rest (info_of bytes) → Said bytes parent rest
unfolding info_of has_parent has_error
said bytes parent rest ok = record {
  parent_is = (bytes_eq-Decides (bytes_at bytes 32 16) parent).1 ok.parent_is;
  no_error = ne_eqb (number_at w32 bytes 48 % 2) 1 (λ e. omega (arith, e, ok.sound.flags));
  version_is = ok.sound.version;
  passes = tests (layout_of bytes) ok.sound.layout;
  size_is = size_passes (layout_of bytes) rest ok.sound.layout ok.size_inside;
  next_is = next_passes (layout_of bytes) (number_at w64 bytes 80) rest ok.sound.next ok.next_inside;
}

areas : (bytes : List ℕ) → Passes (layout_of bytes) → number_at w32 bytes 76 ≡ 4096 → has_areas bytes ≡ true
unfolding has_areas
areas bytes p e = rw (eq-eqb (number_at w32 bytes 76) 4096 e, p.pages, p.order) refl

no_fault : (bytes parent : List ℕ) (rest : ℕ) → Said bytes parent rest → number_at w32 bytes 76 ≡ 4096 → layout_fault_of bytes rest ≡ None
unfolding layout_fault_of first_fault
no_fault bytes parent rest s e =
    let p = s.passes in
    rw (p.sector, p.inner, p.lanes, p.blocks, areas bytes p e, s.size_is, s.next_is) refl

is_read : (bytes parent : List ℕ) (rest : ℕ) (info : Info) → StandsFor bytes parent rest info → info_reading bytes parent rest ≡ Ok info
unfolding first_fault
is_read bytes parent rest info ok =
    let s = said bytes parent rest (subst (IsArenaOf parent rest) (sym ok.fields) ok.sound) in
    rw (signed bytes ok.signature_is, summed bytes ok.checksum_is, s.version_is, s.parent_is, s.no_error, no_fault bytes parent rest s ok.info_size) (ap Ok ok.fields)

pub reading_stands : (bytes parent : List ℕ) (rest : ℕ) (r : Result Info InfoFault) → r ≡ info_reading bytes parent rest → IsReading bytes parent rest r
reading_stands bytes parent rest r e info =
    (λ ok. stands bytes parent rest info (all_passed bytes parent rest info (sym e ∙ ok)), λ ok. e ∙ is_read bytes parent rest info ok)
