-- The arenas of namespaces are put into contents, one namespace after another.
use Rattle.std.proofs.Common.{◌≡◌, ℕ, zero, suc, ◌+◌, ◌*◌, ◌<◌, ◌≤◌, List, [], ◌∷◌, length, map, Some, refl, sym, ap, ◌∙◌, subst, inl, inr, ◌⊎◌, ◌++◌, ◌%◌, ◌^◌, length-append, arith}
use Rattle.std.specs.Prelude.{slice_get}
use Rattle.std.specs.List.{All}
use Rattle.std.proofs.lemmas.List.{length-map}
use Rattle.std.proofs.lemmas.List.Elements.{All-append, All-cons, All-head, All-nil, All-tail}
use Rattle.std.proofs.lemmas.List.Sums.{sum_by-append}
use Rattle.std.proofs.lemmas.Option.{none-some, same_Some}
use Rattle.cut_words.specs.Words.{Words, settled}
use Rattle.cut_words.specs.WordBytes.{words_in}
use Rattle.nfit_reader.specs.declared.table.Mapping.{Mapping}
use Rattle.interleave.specs.Places.{unit_of}
use Rattle.interleave.specs.Sound.{span_of}
use Rattle.arena_open.proofs.Bytes.{length_words}
use Rattle.image_set.specs.Patches.{patched_contents}
use Rattle.power_cut.specs.Namespace.{ReachEnds, beside_of, words_of}
use Rattle.namespace_areas.specs.Finding.{set_at}
use Rattle.namespace_bytes.specs.declared.new_bytes.NewBytes.{NewBytes}
use Rattle.namespace_bytes.specs.declared.new_bytes.NewBytes.TheVariants.{Runs}
use Rattle.namespace_bytes.specs.declared.patch.NamespacePatch.{NamespacePatch}
use Rattle.namespace_bytes.specs.declared.runs.Run.{Run}
use Rattle.namespace_bytes.specs.Patching.{ArePatched, AreWhole, BytePatch, IsFor, IsPart, all_patched, byte_patched, bytes_by_place, patch_in}
use Rattle.namespace_bytes.specs.Runs.{runs_byte}
use Rattle.namespace_bytes.proofs.ByteWords.{from_first}
use Rattle.namespace_bytes.proofs.Several.{contents_after, contents_none, reach_kept, whole_kept}
use Rattle.sector_namespaces.specs.Creation.{AreSettled}
use Rattle.sector_namespaces.specs.View.{rows_of}
use Rattle.served_namespaces.specs.declared.places.FoundNamespace.{FoundNamespace}
use Rattle.served_namespaces.specs.declared.places.OpenedNamespace.{OpenedNamespace}
use Rattle.served_namespaces.specs.Places.{AreDisjoint, CanOpen, PlaceBytes, place_in, words_at}
use Rattle.served_namespaces.specs.Putting.{put_parts, total_of}
use Rattle.served_namespaces.specs.Reading.{AreHeld, IsHeld, IsOpened}
use Rattle.served_namespaces.specs.Serving.{AllFit, AreLeft, ArenasFit}
use Rattle.served_namespaces.specs.Steps.{ArePartRuns, IsPartOf, IsReady, ReachAll}
use Rattle.served_namespaces.proofs.PutBack.{SoFar, goes_on, open_at, parts_fit, parts_put, place_at, room}
use Rattle.served_namespaces.proofs.Parts.{total_cons}
use Rattle.served_namespaces.proofs.Steps.{got_below, got_contains, place_of}

-- ---- one namespace

-- a namespace's words after its runs are put, and the words beside it
pub record IsPut (sets : List (List Mapping)) (place : FoundNamespace) (parts : List (List ℕ)) (rows now : List Words) : Type 0 where
  pub put : words_of (place_in sets place.found now) ≡ settled (put_parts 0 parts (words_at sets place.found rows))
  pub same : beside_of (place_in sets place.found now) ≡ beside_of (place_in sets place.found rows)

abbrev Patched : List Mapping → ℕ → ℕ → NewBytes → List (List ℕ) → Type 0
Patched set offset raw bytes contents = ArePatched (record { set = set; offset = offset; raw = raw; bytes = bytes }) contents

module _ (sets : List (List Mapping)) (place : FoundNamespace) (parts : List (List ℕ)) (runs : List Run) (are : ArePartRuns 0 parts runs) (contents now : List (List ℕ)) where
  abbrev set : List Mapping
  set = set_at sets place.found.region

  abbrev p : BytePatch
  p = record { set = set; offset = place.found.offset; raw = place.found.raw; bytes = Runs runs }

  abbrev row : List ℕ
  row = bytes_by_place set place.found.offset place.found.raw contents

  put_runs : ArePatched p contents → now ≡ patched_contents (byte_patched p) contents → total_of parts ≤ length (words_at sets place.found (rows_of contents)) → IsPut sets place parts (rows_of contents) (rows_of now)
  put_runs patched is room =
      let was : words_at sets place.found (rows_of contents) ≡ words_in row = ap (λ (w : Words). w.kept) patched.was in
      let fits : 8 * (0 + total_of parts) ≤ length row = omega (arith, room, ap (λ (ws : List ℕ). length ws) was, length_words row) in
      record {
        put = ap (λ (cs : List (List ℕ)). words_of (place_in sets place.found (rows_of cs))) is ∙ patched.words
            ∙ ap settled (ap words_in (from_first (runs_byte runs) row) ∙ parts_put 0 parts runs row are fits ∙ ap (put_parts 0 parts) (sym was));
        same = ap (λ (cs : List (List ℕ)). beside_of (place_in sets place.found (rows_of cs))) is ∙ patched.beside;
      }

-- of a patch
pub is_put : (sets : List (List Mapping)) (place : FoundNamespace) (parts : List (List ℕ)) (part : NamespacePatch) → IsPartOf place parts part → (contents : List (List ℕ)) → ArePatched (patch_in sets part) contents
    → total_of parts ≤ length (words_at sets place.found (rows_of contents)) → IsPut sets place parts (rows_of contents) (rows_of (patched_contents (byte_patched (patch_in sets part)) contents))
is_put sets place parts part of contents patched room =
    let same : patch_in sets part ≡ record { set = set_at sets place.found.region; offset = place.found.offset; raw = place.found.raw; bytes = Runs of.runs } =
    λ i. record { set = set_at sets (of.region i); offset = of.offset i; raw = of.raw i; bytes = of.bytes i } in
    put_runs sets place parts of.runs of.are contents (patched_contents (byte_patched (patch_in sets part)) contents)
    (subst (λ (p : BytePatch). ArePatched p contents) same patched) (ap (λ (p : BytePatch). patched_contents (byte_patched p) contents) same) room

-- ---- all of them

-- the patches of namespaces from number i on
pub record ArePatches (places : List FoundNamespace) (words : List (List (List ℕ))) (patches : List NamespacePatch) : Type 0 where
  pub count : length patches ≡ length places
  pub each : (k : ℕ) (place : FoundNamespace) (parts : List (List ℕ)) (part : NamespacePatch) → slice_get places k ≡ Some place → slice_get words k ≡ Some parts → slice_get patches k ≡ Some part → IsPartOf place parts part

abbrev pub Puts : BytePatch → Type 0
Puts p = (contents : List (List ℕ)) → AreWhole contents → ReachEnds p.set (rows_of contents) → ArePatched p contents

some_at : {X : Type 0} (xs : List X) (i : ℕ) → i < length xs → (x : X) × (slice_get xs i ≡ Some x)
some_at [] i lt = absurd (omega (arith, lt))
some_at (x ∷ xs) zero lt = (x, refl)
some_at (x ∷ xs) (suc i) lt = some_at xs i (omega (arith, lt))

-- the items from number i on
abbrev AreFrom : {X : Type 0} → List X → ℕ → List X → Type 0
AreFrom {X} xs i rest = (k : ℕ) (x : X) → slice_get rest k ≡ Some x → slice_get xs (i + k) ≡ Some x

from_next : {X : Type 0} (xs : List X) (i : ℕ) (x : X) (rest : List X) → AreFrom xs i (x ∷ rest) → AreFrom xs (i + 1) rest
from_next {X} xs i x rest from k y at =
    let e : i + suc k ≡ i + 1 + k = omega arith in
    subst (λ (j : ℕ). slice_get xs j ≡ Some y) e (from (suc k) y at)

from_here : {X : Type 0} (xs : List X) (i : ℕ) (x : X) (rest : List X) → AreFrom xs i (x ∷ rest) → slice_get xs i ≡ Some x
from_here {X} xs i x rest from =
    let e : i + 0 ≡ i = omega arith in
    subst (λ (j : ℕ). slice_get xs j ≡ Some x) e (from 0 x refl)

module _ (sets : List (List Mapping)) (sound : PlaceBytes sets) (first : List Words) (opened : List OpenedNamespace) (words : List (List (List ℕ))) (each : All (IsOpened sets) opened)
    (disjoint : AreDisjoint sets (map place_of opened)) (fit : AllFit opened words) (all : List NamespacePatch)
    (are : (k : ℕ) (o : OpenedNamespace) (parts : List (List ℕ)) (part : NamespacePatch) → slice_get opened k ≡ Some o → slice_get words k ≡ Some parts → slice_get all k ≡ Some part → IsPartOf o.place parts part) where
  put_each : (rest : List NamespacePatch) (i : ℕ) (contents : List (List ℕ)) → AreFrom all i rest → i + length rest ≡ length opened → All Puts (map (patch_in sets) rest) → AreWhole contents → ReachAll sets contents
      → SoFar sets first opened words i (rows_of contents)
      → SoFar sets first opened words (length opened) (rows_of (patched_contents (all_patched (map (patch_in sets) rest)) contents))
  put_each [] i contents from long puts whole reach so_far =
      let e : i ≡ length opened = omega (arith, long) in
      subst (λ (cs : List (List ℕ)). SoFar sets first opened words (length opened) (rows_of cs)) (sym (contents_none contents)) (subst (λ (n : ℕ). SoFar sets first opened words n (rows_of contents)) e so_far)
  put_each (part ∷ rest) i contents from long puts whole reach so_far =
      let below : i < length opened = omega (arith, long) in
      let o = some_at opened i below in
      let parts = some_at words i (omega (arith, below, fit.count)) in
      let of : IsPartOf o.0.place parts.0 part = are i o.0 parts.0 part o.1 parts.1 (from_here all i part rest from) in
      let open_here : IsOpened sets o.0 = open_at sets opened i o.0 each o.1 in
      let held : IsHeld sets (rows_of contents) o.0 = so_far.held i o.0 (omega arith) o.1 in
      let fits : ArenasFit o.0 parts.0 = fit.each i o.0 parts.0 o.1 parts.1 in
      let reach_here : ReachEnds (set_at sets part.region) (rows_of contents) =
      subst (λ (r : ℕ). ReachEnds (set_at sets r) (rows_of contents)) (sym of.region) (reach o.0.place.found.region open_here.can.lies.region) in
      let patched : ArePatched (patch_in sets part) contents = All-head Puts (patch_in sets part) (map (patch_in sets) rest) puts contents whole reach_here in
      let put : IsPut sets o.0.place parts.0 (rows_of contents) (rows_of (patched_contents (byte_patched (patch_in sets part)) contents)) =
      is_put sets o.0.place parts.0 part of contents patched (room sets (rows_of contents) o.0 parts.0 open_here held fits) in
      let on : SoFar sets first opened words (i + 1) (rows_of (patched_contents (byte_patched (patch_in sets part)) contents)) =
      goes_on sets sound first opened words each disjoint fit (rows_of contents) (rows_of (patched_contents (byte_patched (patch_in sets part)) contents)) i so_far o.0 parts.0 o.1 parts.1 put.put put.same in
      subst (λ (cs : List (List ℕ)). SoFar sets first opened words (length opened) (rows_of cs)) (sym (contents_after (patch_in sets part) (map (patch_in sets) rest) contents))
      (put_each rest (i + 1) (patched_contents (byte_patched (patch_in sets part)) contents) (from_next all i part rest from) (omega (arith, long)) (All-tail Puts (patch_in sets part) (map (patch_in sets) rest) puts)
      (whole_kept (byte_patched (patch_in sets part)) contents whole) (λ region lt. reach_kept (byte_patched (patch_in sets part)) (set_at sets region) contents (reach region lt)) on)

-- no word of contents is pending
rows_settled : (contents : List (List ℕ)) → AreSettled (rows_of contents)
rows_settled [] = All-nil (λ (w : Words). w ≡ settled w.kept)
rows_settled (row ∷ contents) = All-cons (λ (w : Words). w ≡ settled w.kept) (settled (words_in row)) (rows_of contents) refl (rows_settled contents)

pub all_left : (sets : List (List Mapping)) → PlaceBytes sets → (places : List FoundNamespace) (opened : List OpenedNamespace) (words : List (List (List ℕ))) (patches : List NamespacePatch) (contents : List (List ℕ))
    → IsReady sets places opened words → ArePatches places words patches → All Puts (map (patch_in sets) patches) → AreHeld sets (rows_of contents) opened → AreWhole contents → ReachAll sets contents
    → AreLeft sets (rows_of contents) opened words (rows_of (patched_contents (all_patched (map (patch_in sets) patches)) contents))
all_left sets sound places opened words patches contents ready are puts held whole reach =
    let count : length opened ≡ length places = sym (length-map opened place_of) ∙ ap (λ (ps : List FoundNamespace). length ps) ready.places_are in
    let disjoint : AreDisjoint sets (map place_of opened) = subst (λ (ps : List FoundNamespace). AreDisjoint sets ps) (sym ready.places_are) ready.disjoint in
    let of : (k : ℕ) (o : OpenedNamespace) (parts : List (List ℕ)) (part : NamespacePatch) → slice_get opened k ≡ Some o → slice_get words k ≡ Some parts → slice_get patches k ≡ Some part → IsPartOf o.place parts part =
    λ k o parts part at_o at_w at_p. are.each k o.place parts part (sym (ap (λ (ps : List FoundNamespace). slice_get ps k) ready.places_are) ∙ place_at opened k o at_o) at_w at_p in
    let start : SoFar sets (rows_of contents) opened words 0 (rows_of contents) = record {
      left = λ k o parts lt at_o at_p. absurd (omega (arith, lt));
      held = λ k o le at. held o (got_contains opened k o at);
      beside = record { sizes = refl; same = λ which k none. refl };
    } in
    let end : SoFar sets (rows_of contents) opened words (length opened) (rows_of (patched_contents (all_patched (map (patch_in sets) patches)) contents)) =
    put_each sets sound (rows_of contents) opened words ready.each disjoint ready.fit patches of patches 0 contents
    (λ k x at. let e : 0 + k ≡ k = omega arith in subst (λ (j : ℕ). slice_get patches j ≡ Some x) (sym e) at) (omega (arith, are.count, count)) puts whole reach start in
    record {
      each = λ k o parts at_o at_p. end.left k o parts (got_below opened k o at_o) at_o at_p;
      settled = rows_settled (patched_contents (all_patched (map (patch_in sets) patches)) contents);
      beside = end.beside;
    }

-- ---- as they are made

pub total_more : (first more : List (List ℕ)) → total_of (first ++ more) ≡ total_of first + total_of more
total_more first more = sum_by-append (λ (part : List ℕ). length part) first more

-- one run more
pub runs_more : (at : ℕ) (parts : List (List ℕ)) (runs : List Run) (part : List ℕ) (run : Run) → ArePartRuns at parts runs → run.first ≡ 8 * (at + total_of parts) → length run.bytes ≡ 8 * length part → words_in run.bytes ≡ part
    → ArePartRuns at (parts ++ part ∷ []) (runs ++ run ∷ [])
runs_more at [] [] part run are first long words = (omega (arith, first), long, words, tt)
runs_more at [] (r ∷ runs) part run are first long words = absurd are
runs_more at (p ∷ parts) [] part run are first long words = absurd are
runs_more at (p ∷ parts) (r ∷ runs) part run are first long words = (
  are.0,
  are.1,
  are.2,
  runs_more (at + length p) parts runs part run are.3 (omega (arith, first, total_cons p parts)) long words,
)

-- the next of a list's items
pub item_next : {X : Type 0} (xs done : List X) (x : X) (rest : List X) → done ++ x ∷ rest ≡ xs → (length done < length xs) × (slice_get xs (length done) ≡ Some x)
item_next {X} xs done x rest is = (
  omega (arith, ap (λ (ys : List X). length ys) is, length-append done (x ∷ rest)),
  ap (λ (ys : List X). slice_get ys (length done)) (sym is) ∙ got_next done x rest,
)
  where
    got_next : (ys : List X) (y : X) (zs : List X) → slice_get (ys ++ y ∷ zs) (length ys) ≡ Some y
    got_next [] y zs = refl
    got_next (z ∷ ys) y zs = got_next ys y zs

-- the patches of the first namespaces
pub record AreFirst (sets : List (List Mapping)) (places : List FoundNamespace) (done : List (List (List ℕ))) (patches : List NamespacePatch) : Type 0 where
  pub count : length patches ≡ length done
  pub each : (k : ℕ) (place : FoundNamespace) (parts : List (List ℕ)) (part : NamespacePatch) → slice_get places k ≡ Some place → slice_get done k ≡ Some parts → slice_get patches k ≡ Some part → IsPartOf place parts part
  pub lie : All (IsPart sets) patches

pub none_made : (sets : List (List Mapping)) (places : List FoundNamespace) → AreFirst sets places [] []
none_made sets places = record {
  count = refl;
  each = λ k place parts part at_p at_w at. absurd (none-some parts at_w);
  lie = All-nil (IsPart sets);
}

-- where an item of a longer list stands
at_push : {X : Type 0} (xs : List X) (x a : X) (i : ℕ) → slice_get (xs ++ x ∷ []) i ≡ Some a → (slice_get xs i ≡ Some a) ⊎ ((i ≡ length xs) × (x ≡ a))
at_push [] x a zero is = inr (refl, same_Some x a is)
at_push [] x a (suc i) is = absurd (none-some a is)
at_push (y ∷ ys) x a zero is = inl is
at_push (y ∷ ys) x a (suc i) is = elim (at_push ys x a i is) [
  | inl before ↦ inl before
  | inr last ↦ inr (omega (arith, last.0), last.1)
]

-- a namespace in its set
is_part : (sets : List (List Mapping)) (place : FoundNamespace) (parts : List (List ℕ)) (part : NamespacePatch) → CanOpen sets place → IsPartOf place parts part → IsPart sets part
is_part sets place parts part can of = record {
  region = subst (λ (r : ℕ). r < length sets) (sym of.region) can.lies.region;
  from = subst (λ (r : ℕ). part.offset % unit_of (set_at sets r) ≡ 0) (sym of.region) (subst (λ (o : ℕ). o % unit_of (set_at sets place.found.region) ≡ 0) (sym of.offset) can.lies.from);
  to = subst (λ (r : ℕ). part.raw % unit_of (set_at sets r) ≡ 0) (sym of.region) (subst (λ (o : ℕ). o % unit_of (set_at sets place.found.region) ≡ 0) (sym of.raw) can.lies.to);
  inside = subst (λ (r : ℕ). part.offset + part.raw ≤ span_of (set_at sets r)) (sym of.region) (omega (arith, of.offset, of.raw, can.lies.inside));
  long = subst (λ (b : NewBytes). IsFor b (length (set_at sets part.region) * part.raw)) (sym of.bytes) tt;
}

module _ (sets : List (List Mapping)) (places : List FoundNamespace) (opened : List OpenedNamespace) (words : List (List (List ℕ))) (ready : IsReady sets places opened words) (k : ℕ) (below : k < length words) where
  count : length opened ≡ length places
  count = sym (length-map opened place_of) ∙ ap (λ (ps : List FoundNamespace). length ps) ready.places_are

  -- it has a place
  pub place_below : k < length places
  place_below = omega (arith, below, ready.fit.count, count)

  one : (o : OpenedNamespace) × (slice_get opened k ≡ Some o)
  one = some_at opened k (omega (arith, below, ready.fit.count))

  here : IsOpened sets one.0
  here = open_at sets opened k one.0 ready.each one.1

  -- there is room for its words
  pub few_parts : (parts : List (List ℕ)) → slice_get words k ≡ Some parts → total_of parts ≤ 2 ^ 52
  few_parts parts at = omega (arith, parts_fit one.0 parts sets here (ready.fit.each k one.0 parts one.1 at), here.few)

  can_open : (place : FoundNamespace) → slice_get places k ≡ Some place → CanOpen sets place
  can_open place at =
      let same : one.0.place ≡ place = same_Some one.0.place place (sym (place_at opened k one.0 one.1) ∙ ap (λ (ps : List FoundNamespace). slice_get ps k) ready.places_are ∙ at) in
      subst (CanOpen sets) same here.can

  -- one more
  pub made_more : (done : List (List (List ℕ))) (patches longer : List NamespacePatch) (place : FoundNamespace) (parts : List (List ℕ)) (part : NamespacePatch) → AreFirst sets places done patches → k ≡ length done
      → slice_get places k ≡ Some place → IsPartOf place parts part → longer ≡ patches ++ part ∷ [] → AreFirst sets places (done ++ parts ∷ []) longer
  made_more done patches longer place parts part first here_is at of list = subst (λ (ps : List NamespacePatch). AreFirst sets places (done ++ parts ∷ []) ps) (sym list) (record {
    count = omega (arith, length-append patches (part ∷ []), length-append done (parts ∷ []), first.count);
    each = λ j p ws x at_p at_w at_x. elim (at_push patches part x j at_x) [
      | inl before ↦
          let less : j < length done = omega (arith, got_below patches j x before, first.count) in
          elim (at_push done parts ws j at_w) [
            | inl there ↦ first.each j p ws x at_p there before
            | inr last ↦ absurd (omega (arith, last.0, less))
          ]
      | inr new ↦ elim (at_push done parts ws j at_w) [
        | inl there ↦ absurd (omega (arith, got_below done j ws there, new.0, first.count))
        | inr last ↦
            let e : j ≡ k = omega (arith, last.0, here_is) in
            let same : place ≡ p = same_Some place p (sym at ∙ subst (λ (n : ℕ). slice_get places n ≡ Some p) e at_p) in
            subst (λ (y : NamespacePatch). IsPartOf p ws y) new.1 (subst (λ (y : List (List ℕ)). IsPartOf p y part) last.1 (subst (λ (y : FoundNamespace). IsPartOf y parts part) same of))
      ]
    ];
    lie = All-append (IsPart sets) patches (part ∷ []) first.lie (All-cons (IsPart sets) part [] (is_part sets place parts part (can_open place at) of) (All-nil (IsPart sets)));
  })

-- all of them
pub all_made : (sets : List (List Mapping)) (places : List FoundNamespace) (opened : List OpenedNamespace) (words : List (List (List ℕ))) (patches : List NamespacePatch) → IsReady sets places opened words
    → AreFirst sets places words patches → ArePatches places words patches
all_made sets places opened words patches ready first = record {
  count = first.count ∙ ready.fit.count ∙ sym (length-map opened place_of) ∙ ap (λ (ps : List FoundNamespace). length ps) ready.places_are;
  each = first.each;
}
