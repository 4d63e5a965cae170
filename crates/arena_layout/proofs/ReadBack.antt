-- The encoding of an info block is read as that info.
use Rattle.std.proofs.Common.{◌≡◌, ℕ, ◌+◌, ◌%◌, ◌^◌, ◌<◌, ◌≤◌, true, false, eqb, ◌&&◌, List, ◌++◌, length, take, drop, replicate, None, Ok, refl, sym, ap, ◌∙◌, inl, inr, arith, append_assoc}
use Rattle.std.specs.Int.{Width, byte_len, w16, w32, w64, to_le_bytes, from_le_bytes}
use Rattle.std.proofs.lemmas.Bool.{eq-eqb, ne_eqb, and_parts, or_cases, eqb-true}
use Rattle.std.proofs.lemmas.Nat.{from_le_bytes-to_le_bytes_2, from_le_bytes-to_le_bytes_4, from_le_bytes-to_le_bytes_8}
use Rattle.std.proofs.lemmas.List.{length-append, take_at, drop_at, drop-drop, drop_all, append-nil}
use Rattle.std.proofs.lemmas.Slice.Eq.{bytes_eq-Decides}
use Rattle.nvd_words.specs.Bytes.{number_at}
use Rattle.nvd_words.specs.Checks.{first_fault}
use Rattle.nvd_words.specs.Fletcher.{fletcher64_of, without_eight}
use Rattle.arena_layout.specs.declared.info.Info.{Info}
use Rattle.arena_layout.specs.Layout.{is_sector}
use Rattle.arena_layout.specs.Info.{signature, bytes_at, has_signature, has_checksum, is_version, has_parent, has_error, has_areas, layout_of, info_of, layout_fault_of, info_reading, IsInfo, ReadsBack}
use Rattle.arena_layout.specs.Spelling.{fields_of, unused, body_of, spelling_of, HasWidths}
use Rattle.arena_layout.proofs.Spelled.{head_of, length_body_by}
use Rattle.arena_layout.proofs.Sectors.{blocks}
use Rattle.arena_layout.proofs.Passing.{tests, size_passes, next_passes}

abbrev sum_of : Info → ℕ
sum_of info = fletcher64_of (body_of info ++ replicate 8 0)

abbrev front_of : Info → List ℕ
front_of info = signature ++ (info.uuid ++ info.parent)

-- the bytes from 48 on
abbrev tail_of : Info → List ℕ
tail_of info = fields_of info ++ (unused ++ to_le_bytes w64 (sum_of info))

assoc_all : (s u p f w z : List ℕ) → (s ++ (u ++ (p ++ (f ++ w)))) ++ z ≡ (s ++ (u ++ p)) ++ (f ++ (w ++ z))
assoc_all s u p f w z = simp append_assoc

spelling_is : (info : Info) → spelling_of info ≡ front_of info ++ tail_of info
unfolding spelling_of
spelling_is info = assoc_all signature info.uuid info.parent (fields_of info) unused (to_le_bytes w64 (sum_of info))

length_front : (info : Info) → HasWidths info → length (front_of info) ≡ 48
length_front info ok =
    length-append signature (info.uuid ++ info.parent) ∙ omega (arith, length-append info.uuid info.parent, ok.uuid_len, ok.parent_len)

drop_past : (info : Info) (k : ℕ) → HasWidths info → drop (48 + k) (spelling_of info) ≡ drop k (tail_of info)
drop_past info k ok =
    ap (drop (48 + k)) (spelling_is info) ∙ sym (drop-drop k 48 (front_of info ++ tail_of info)) ∙ ap (drop k) (drop_at (front_of info) (tail_of info) 48 (length_front info ok))

past : (w : Width) (info : Info) (k n : ℕ) → HasWidths info → n ≡ 48 + k → number_at w (spelling_of info) n ≡ number_at w (tail_of info) k
unfolding number_at
past w info k n ok e =
    ap (λ (m : ℕ). from_le_bytes w (take (byte_len w) (drop m (spelling_of info)))) e ∙ ap (λ (b : List ℕ). from_le_bytes w (take (byte_len w) b)) (drop_past info k ok)

-- ---- the numbers

flags_in : (info : Info) → info.flags < 2 ^ 32 → number_at w32 (tail_of info) 0 ≡ info.flags
unfolding number_at
flags_in info lt = from_le_bytes-to_le_bytes_4 (info.flags) lt

flags_at : (info : Info) → HasWidths info → info.flags < 2 ^ 32 → number_at w32 (spelling_of info) 48 ≡ info.flags
flags_at info ok lt = past w32 info 0 48 ok refl ∙ flags_in info lt

major_in : (info : Info) → info.major < 2 ^ 16 → number_at w16 (tail_of info) 4 ≡ info.major
unfolding number_at
major_in info lt = from_le_bytes-to_le_bytes_2 (info.major) lt

major_at : (info : Info) → HasWidths info → info.major < 2 ^ 16 → number_at w16 (spelling_of info) 52 ≡ info.major
major_at info ok lt = past w16 info 4 52 ok refl ∙ major_in info lt

minor_in : (info : Info) → info.minor < 2 ^ 16 → number_at w16 (tail_of info) 6 ≡ info.minor
unfolding number_at
minor_in info lt = from_le_bytes-to_le_bytes_2 (info.minor) lt

minor_at : (info : Info) → HasWidths info → info.minor < 2 ^ 16 → number_at w16 (spelling_of info) 54 ≡ info.minor
minor_at info ok lt = past w16 info 6 54 ok refl ∙ minor_in info lt

sector_in : (info : Info) → info.layout.sector < 2 ^ 32 → number_at w32 (tail_of info) 8 ≡ info.layout.sector
unfolding number_at
sector_in info lt = from_le_bytes-to_le_bytes_4 (info.layout.sector) lt

sector_at : (info : Info) → HasWidths info → info.layout.sector < 2 ^ 32 → number_at w32 (spelling_of info) 56 ≡ info.layout.sector
sector_at info ok lt = past w32 info 8 56 ok refl ∙ sector_in info lt

external_in : (info : Info) → info.layout.external < 2 ^ 32 → number_at w32 (tail_of info) 12 ≡ info.layout.external
unfolding number_at
external_in info lt = from_le_bytes-to_le_bytes_4 (info.layout.external) lt

external_at : (info : Info) → HasWidths info → info.layout.external < 2 ^ 32 → number_at w32 (spelling_of info) 60 ≡ info.layout.external
external_at info ok lt = past w32 info 12 60 ok refl ∙ external_in info lt

inner_in : (info : Info) → info.layout.inner < 2 ^ 32 → number_at w32 (tail_of info) 16 ≡ info.layout.inner
unfolding number_at
inner_in info lt = from_le_bytes-to_le_bytes_4 (info.layout.inner) lt

inner_at : (info : Info) → HasWidths info → info.layout.inner < 2 ^ 32 → number_at w32 (spelling_of info) 64 ≡ info.layout.inner
inner_at info ok lt = past w32 info 16 64 ok refl ∙ inner_in info lt

internal_in : (info : Info) → info.layout.internal < 2 ^ 32 → number_at w32 (tail_of info) 20 ≡ info.layout.internal
unfolding number_at
internal_in info lt = from_le_bytes-to_le_bytes_4 (info.layout.internal) lt

internal_at : (info : Info) → HasWidths info → info.layout.internal < 2 ^ 32 → number_at w32 (spelling_of info) 68 ≡ info.layout.internal
internal_at info ok lt = past w32 info 20 68 ok refl ∙ internal_in info lt

lanes_in : (info : Info) → info.layout.lanes < 2 ^ 32 → number_at w32 (tail_of info) 24 ≡ info.layout.lanes
unfolding number_at
lanes_in info lt = from_le_bytes-to_le_bytes_4 (info.layout.lanes) lt

lanes_at : (info : Info) → HasWidths info → info.layout.lanes < 2 ^ 32 → number_at w32 (spelling_of info) 72 ≡ info.layout.lanes
lanes_at info ok lt = past w32 info 24 72 ok refl ∙ lanes_in info lt

info_size_in : (info : Info) → 4096 < 2 ^ 32 → number_at w32 (tail_of info) 28 ≡ 4096
unfolding number_at
info_size_in info lt = from_le_bytes-to_le_bytes_4 (4096) lt

info_size_at : (info : Info) → HasWidths info → 4096 < 2 ^ 32 → number_at w32 (spelling_of info) 76 ≡ 4096
info_size_at info ok lt = past w32 info 28 76 ok refl ∙ info_size_in info lt

next_in : (info : Info) → info.next < 2 ^ 64 → number_at w64 (tail_of info) 32 ≡ info.next
unfolding number_at
next_in info lt = from_le_bytes-to_le_bytes_8 (info.next) lt

next_at : (info : Info) → HasWidths info → info.next < 2 ^ 64 → number_at w64 (spelling_of info) 80 ≡ info.next
next_at info ok lt = past w64 info 32 80 ok refl ∙ next_in info lt

data_in : (info : Info) → info.layout.data_off < 2 ^ 64 → number_at w64 (tail_of info) 40 ≡ info.layout.data_off
unfolding number_at
data_in info lt = from_le_bytes-to_le_bytes_8 (info.layout.data_off) lt

data_at : (info : Info) → HasWidths info → info.layout.data_off < 2 ^ 64 → number_at w64 (spelling_of info) 88 ≡ info.layout.data_off
data_at info ok lt = past w64 info 40 88 ok refl ∙ data_in info lt

map_in : (info : Info) → info.layout.map_off < 2 ^ 64 → number_at w64 (tail_of info) 48 ≡ info.layout.map_off
unfolding number_at
map_in info lt = from_le_bytes-to_le_bytes_8 (info.layout.map_off) lt

map_at : (info : Info) → HasWidths info → info.layout.map_off < 2 ^ 64 → number_at w64 (spelling_of info) 96 ≡ info.layout.map_off
map_at info ok lt = past w64 info 48 96 ok refl ∙ map_in info lt

flog_in : (info : Info) → info.layout.flog_off < 2 ^ 64 → number_at w64 (tail_of info) 56 ≡ info.layout.flog_off
unfolding number_at
flog_in info lt = from_le_bytes-to_le_bytes_8 (info.layout.flog_off) lt

flog_at : (info : Info) → HasWidths info → info.layout.flog_off < 2 ^ 64 → number_at w64 (spelling_of info) 104 ≡ info.layout.flog_off
flog_at info ok lt = past w64 info 56 104 ok refl ∙ flog_in info lt

info_in : (info : Info) → info.layout.info_off < 2 ^ 64 → number_at w64 (tail_of info) 64 ≡ info.layout.info_off
unfolding number_at
info_in info lt = from_le_bytes-to_le_bytes_8 (info.layout.info_off) lt

info_at : (info : Info) → HasWidths info → info.layout.info_off < 2 ^ 64 → number_at w64 (spelling_of info) 112 ≡ info.layout.info_off
info_at info ok lt = past w64 info 64 112 ok refl ∙ info_in info lt

-- ---- the widths

version_low : (major minor : ℕ) → is_version major minor ≡ true → (major < 2 ^ 16) × (minor < 2 ^ 16)
unfolding is_version
version_low major minor e = elim (or_cases (eqb major 2 && eqb minor 0) (eqb major 1 && eqb minor 1) e) [
  | inl new ↦
      let p = and_parts (eqb major 2) (eqb minor 0) new in
      (omega (arith, eqb-true major 2 p.0), omega (arith, eqb-true minor 0 p.1))
  | inr old ↦
      let p = and_parts (eqb major 1) (eqb minor 1) old in
      (omega (arith, eqb-true major 1 p.0), omega (arith, eqb-true minor 1 p.1))
]

record Widths (info : Info) : Type 0 where
  flags : info.flags < 2 ^ 32
  major : info.major < 2 ^ 16
  minor : info.minor < 2 ^ 16
  sector : info.layout.sector < 2 ^ 32
  external : info.layout.external < 2 ^ 32
  internal : info.layout.internal < 2 ^ 32
  lanes : info.layout.lanes < 2 ^ 32
  next : info.next < 2 ^ 64
  data_off : info.layout.data_off < 2 ^ 64
  map_off : info.layout.map_off < 2 ^ 64
  flog_off : info.layout.flog_off < 2 ^ 64
  last_off : info.layout.info_off < 2 ^ 64

take_at_append : (x y z : List ℕ) (n : ℕ) → length x ≡ n → take n ((x ++ y) ++ z) ≡ x
take_at_append x y z n len = ap (take n) (append_assoc x y z) ∙ take_at x (y ++ z) n len

next_small : (info : Info) → IsInfo info → info.next < 2 ^ 64
next_small info ok = elim (or_cases (eqb info.next 0) (eqb info.next info.layout.size) ok.next) [
  | inl z ↦ omega (arith, eqb-true info.next 0 z)
  | inr s ↦ omega (arith, eqb-true info.next info.layout.size s, ok.layout.size_high)
]

sector_high : (s : ℕ) → is_sector s ≡ true → s ≤ 4224
sector_high s e = (blocks s e).sector_high

widths : (info : Info) → IsInfo info → Widths info
widths info ok =
    let v = version_low info.major info.minor ok.version in
    let l = ok.layout in
    record {
      flags = omega (arith, ok.flags);
      major = v.0;
      minor = v.1;
      sector = omega (arith, sector_high info.layout.sector l.sector);
      external = omega (arith, l.internal_is, l.internal_few);
      internal = omega (arith, l.internal_few);
      lanes = omega (arith, l.lanes_few);
      next = next_small info ok;
      data_off = omega (arith, l.after_data, l.after_map, l.after_flog, l.size_is, l.size_high);
      map_off = omega (arith, l.after_map, l.after_flog, l.size_is, l.size_high);
      flog_off = omega (arith, l.after_flog, l.size_is, l.size_high);
      last_off = omega (arith, l.size_is, l.size_high);
    }

-- ---- the checks

uuid_at : (info : Info) → HasWidths info → bytes_at (spelling_of info) 16 16 ≡ info.uuid
unfolding spelling_of
uuid_at info ok = take_at_append info.uuid (info.parent ++ (fields_of info ++ unused)) (to_le_bytes w64 (sum_of info)) 16 ok.uuid_len

parent_at : (info : Info) → HasWidths info → bytes_at (spelling_of info) 32 16 ≡ info.parent
unfolding spelling_of
parent_at info ok =
    ap (λ (l : List ℕ). take 16 (drop 16 l)) (append_assoc info.uuid (info.parent ++ (fields_of info ++ unused)) (to_le_bytes w64 (sum_of info)))
    ∙ ap (λ (l : List ℕ). take 16 l) (drop_at info.uuid ((info.parent ++ (fields_of info ++ unused)) ++ to_le_bytes w64 (sum_of info)) 16 ok.uuid_len)
    ∙ take_at_append info.parent (fields_of info ++ unused) (to_le_bytes w64 (sum_of info)) 16 ok.parent_len

signed : (info : Info) → has_signature (spelling_of info) ≡ true
unfolding has_signature spelling_of
signed info = refl

length_head : (info : Info) → HasWidths info → length (head_of info) ≡ 120
length_head info ok =
    length-append signature (info.uuid ++ (info.parent ++ fields_of info))
    ∙ omega (arith, length-append info.uuid (info.parent ++ fields_of info), length-append info.parent (fields_of info), ok.uuid_len, ok.parent_len)

length_body : (info : Info) → HasWidths info → length (body_of info) ≡ 4088
length_body info ok = length_body_by info (length_head info ok)

sum_at : (info : Info) → HasWidths info → number_at w64 (spelling_of info) 4088 ≡ sum_of info
unfolding number_at spelling_of
sum_at info ok =
    ap (λ (l : List ℕ). from_le_bytes w64 (take 8 l)) (drop_at (body_of info) (to_le_bytes w64 (sum_of info)) 4088 (length_body info ok))
    ∙ from_le_bytes-to_le_bytes_8 (sum_of info) (omega arith)

without_is : (info : Info) → HasWidths info → without_eight (spelling_of info) 4088 ≡ body_of info ++ replicate 8 0
unfolding spelling_of
without_is info ok =
    ap (λ (b : List ℕ). b ++ replicate 8 0 ++ drop 4096 (spelling_of info)) (take_at (body_of info) (to_le_bytes w64 (sum_of info)) 4088 (length_body info ok))
    ∙ ap (λ (b : List ℕ). body_of info ++ replicate 8 0 ++ b) (drop_all 4096 (spelling_of info) (omega (arith, length-append (body_of info) (to_le_bytes w64 (sum_of info)), length_body info ok)))
    ∙ append-nil (body_of info ++ replicate 8 0)

summed : (info : Info) → HasWidths info → has_checksum (spelling_of info) ≡ true
unfolding has_checksum
summed info ok =
    eq-eqb (number_at w64 (spelling_of info) 4088) (fletcher64_of (without_eight (spelling_of info) 4088)) (sum_at info ok ∙ sym (ap fletcher64_of (without_is info ok)))

parented : (info : Info) → HasWidths info → has_parent (spelling_of info) info.parent ≡ true
unfolding has_parent
parented info ok = (bytes_eq-Decides (bytes_at (spelling_of info) 32 16) info.parent).1 (parent_at info ok)

sound_state : (info : Info) → HasWidths info → info.flags ≡ 0 → has_error (spelling_of info) ≡ false
unfolding has_error
sound_state info ok zero' =
    ne_eqb (number_at w32 (spelling_of info) 48 % 2) 1 (λ e. omega (arith, e, flags_at info ok (omega (arith, zero')), zero'))

layout_is : (info : Info) → IsInfo info → HasWidths info → layout_of (spelling_of info) ≡ info.layout
unfolding layout_of
layout_is info ok fit =
    let w = widths info ok in
    let size : number_at w64 (spelling_of info) 112 + 4096 ≡ info.layout.size = omega (arith, info_at info fit w.last_off, ok.layout.size_is) in
    let sector = sector_at info fit w.sector in
    let inner = inner_at info fit fit.inner in
    let external = external_at info fit w.external in
    let internal = internal_at info fit w.internal in
    let lanes = lanes_at info fit w.lanes in
    let data' = data_at info fit w.data_off in
    let map' = map_at info fit w.map_off in
    let flog = flog_at info fit w.flog_off in
    let last' = info_at info fit w.last_off in
    λ i. record {
      size = size i;
      sector = sector i;
      inner = inner i;
      external = external i;
      internal = internal i;
      lanes = lanes i;
      data_off = data' i;
      map_off = map' i;
      flog_off = flog i;
      info_off = last' i;
    }

info_is : (info : Info) → IsInfo info → HasWidths info → info_of (spelling_of info) ≡ info
unfolding info_of
info_is info ok fit =
    let w = widths info ok in
    let uuid = uuid_at info fit in
    let parent = parent_at info fit in
    let flags : number_at w32 (spelling_of info) 48 % 2 ≡ info.flags = omega (arith, flags_at info fit w.flags, ok.flags) in
    let major = major_at info fit w.major in
    let minor = minor_at info fit w.minor in
    let next = next_at info fit w.next in
    let layout = layout_is info ok fit in
    λ i. record { uuid = uuid i; parent = parent i; flags = flags i; major = major i; minor = minor i; next = next i; layout = layout i }

areas_pass : (info : Info) → IsInfo info → HasWidths info → has_areas (spelling_of info) ≡ true
unfolding has_areas
areas_pass info ok fit =
    let p = tests info.layout ok.layout in
    rw (layout_is info ok fit, info_size_at info fit (omega arith), p.pages, p.order) refl

no_layout_fault : (info : Info) (rest : ℕ) → IsInfo info → HasWidths info → info.layout.size ≤ rest → info.next < rest → layout_fault_of (spelling_of info) rest ≡ None
unfolding layout_fault_of first_fault
no_layout_fault info rest ok fit inside next =
    let p = tests info.layout ok.layout in
    let w = widths info ok in
    rw (
      areas_pass info ok fit,
      layout_is info ok fit,
      next_at info fit w.next,
      p.sector,
      p.inner,
      p.lanes,
      p.blocks,
      size_passes info.layout rest ok.layout inside,
      next_passes info.layout info.next rest ok.next next,
    ) refl

pub reads_back : (info : Info) → IsInfo info → HasWidths info → ReadsBack (spelling_of info) info
unfolding first_fault
reads_back info ok fit rest inside next =
    let w = widths info ok in
    rw (
      signed info,
      summed info fit,
      major_at info fit w.major,
      minor_at info fit w.minor,
      ok.version,
      parented info fit,
      sound_state info fit ok.flags,
      no_layout_fault info rest ok fit inside next,
    ) (ap Ok (info_is info ok fit))

pub reads_back_at : (bytes : List ℕ) (info : Info) → IsInfo info → HasWidths info → bytes ≡ spelling_of info → ReadsBack bytes info
reads_back_at bytes info ok fit e rest inside next = ap (λ (b : List ℕ). info_reading b info.parent rest) e ∙ reads_back info ok fit rest inside next
