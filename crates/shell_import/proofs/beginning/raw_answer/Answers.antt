use Rattle.std.proofs.Common.{◌≡◌, ◌∙◌, ℕ, ◌+◌, ◌*◌, ◌^◌, ◌<◌, ◌≤◌, List, [], ◌∷◌, Option, None, length, map, sym, ap, subst, arith}
use Rattle.std.proofs.lemmas.Nat.{mul-le}
use Rattle.nfit_reader.specs.declared.table.Mapping.{Mapping}
use Rattle.interleave.specs.Sound.{span_of}
use Rattle.namespace_areas.specs.declared.area.Area.{Area}
use Rattle.namespace_areas.specs.Finding.{set_at}
use Rattle.namespace_areas.specs.Opening.{AreWhole}
use Rattle.namespace_areas.specs.Seen.{words_of}
use Rattle.shell_sectors.specs.Write.{length_text}
use Rattle.std.specs.Prelude.{MatchOption}
use Rattle.power_cut.specs.Namespace.{ReachEnds}
use Rattle.sector_namespaces.specs.View.{rows_of}
use Rattle.namespace_bytes.specs.declared.new_bytes.NewBytes.TheVariants.{Raw}
use Rattle.namespace_bytes.specs.Patching.{ArePatched, BytePatch}
use Rattle.shell_changes.specs.Answers.{outcome_with}
use Rattle.shell_reports.specs.Faults.{refused_outcome}
use Rattle.shell_reports.proofs.More.{if_more}
use Rattle.shell_sectors.specs.Patched.{Patches, SavesPatched, patch_of}
use Rattle.shell_import.specs.Beginning.{PutsRaw}
use Rattle.shell_import.proofs.Lengths.{misfit, no_misfit}
use Rattle.shell_import.proofs.beginning.raw_answer.Goals as goal

pub set_of-set-requires : goal.set_of-set-requires
set_of-set-requires c = subst (λ (sets : List (List Mapping)). c.args.found.now.region < length sets) (sym c.into_parts-sets.ensures.sets) c.requires.lies.region

-- the bytes of the set are numbers of 64 bits, and so are the namespace's
pub overflow_mul-had : goal.overflow_mul-had
overflow_mul-had c =
    let set : c.set_of-set.result ≡ set_at c.args.registry.sets c.args.found.now.region =
    c.set_of-set.ensures ∙ ap (λ (sets : List (List Mapping)). set_at sets c.args.found.now.region) c.into_parts-sets.ensures.sets in
    let short : c.args.found.now.raw ≤ c.span-span.result =
    omega (arith, subst (λ (s : List Mapping). c.args.found.now.offset + c.args.found.now.raw ≤ span_of s) (sym set) c.requires.lies.inside, c.span-span.ensures.span) in
    let own : length c.set_of-set.result * c.args.found.now.raw < 2 ^ 64 =
    omega (arith, mul-le (length c.set_of-set.result) c.args.found.now.raw (length c.set_of-set.result) c.span-span.result (omega arith) short, c.span-span.ensures.fits, c.span-span.ensures.span) in
    let same : c.from.result * c.args.found.now.raw ≡ length c.set_of-set.result * c.args.found.now.raw = ap (λ (n : ℕ). n * c.args.found.now.raw) (c.from.ensures ∙ c.ways.ensures.ways) in
    omega (arith, own, same)

pub patched_answer-requires-clause-settled : goal.patched_answer-requires-clause-settled
patched_answer-requires-clause-settled c = subst (λ (areas : List Area). AreWhole (map words_of areas)) (sym c.into_parts-sets.ensures.areas) c.requires.settled

set_is : (c : goal.After-patched_answer) → c.set_of-set.result ≡ set_at c.args.registry.sets c.args.found.now.region
set_is c = c.set_of-set.ensures ∙ ap (λ (sets : List (List Mapping)). set_at sets c.args.found.now.region) c.into_parts-sets.ensures.sets

patch_is : (c : goal.After-patched_answer) → record { set = c.set_of-set.result; offset = c.args.found.now.offset; raw = c.args.found.now.raw; bytes = Raw c.from_vec.result } ≡ patch_of c.args.registry.sets c.args.found.now (Raw c.args.bytes.items)
patch_is c = λ i. record { set = set_is c i; offset = c.args.found.now.offset; raw = c.args.found.now.raw; bytes = Raw (c.from_vec.ensures i) }

pub returns-clause-puts : goal.returns-clause-puts
returns-clause-puts c =
    let found = c.args.found.now in
    let fits : length c.args.bytes.items ≡ length (set_at c.args.registry.sets found.region) * found.raw =
    sym c.args.bytes.ok.0 ∙ sym c.len.ensures ∙ c.if-len-had.false ∙ ap (λ (n : ℕ). n * found.raw) (c.from.ensures ∙ c.ways.ensures.ways ∙ ap (λ (s : List Mapping). length s) (set_is c)) in
    let patches : Patches c.args.registry.sets found (patch_of c.args.registry.sets found (Raw c.args.bytes.items)) = λ contents whole reach.
    subst (λ (p : BytePatch). ArePatched p contents) (patch_is c) (c.in_ok-patch.ensures.patched contents whole (subst (λ (s : List Mapping). ReachEnds s (rows_of contents)) (sym (set_is c)) reach)) in
    if_more _ (PutsRaw c.args.registry found c.args.rest c.args.bytes.items) c.patched_answer.result
    (λ answer saves.
    subst (λ (f : Option (List ℕ)). MatchOption f (SavesPatched (patch_of c.args.registry.sets found (Raw c.args.bytes.items) ∷ []) c.args.rest (map words_of c.args.registry.areas) answer × Patches c.args.registry.sets found (patch_of c.args.registry.sets found (Raw c.args.bytes.items)))
    (λ refusal. (answer.saved ≡ None) × ((contents : List (List ℕ)) → outcome_with answer contents ≡ refused_outcome refusal))) (sym (no_misfit (length c.args.bytes.items) (length (set_at c.args.registry.sets found.region) * found.raw) fits)) (
      subst (λ (ps : List BytePatch). SavesPatched ps c.args.rest (map words_of c.args.registry.areas) answer) (c.in_ok-patch.ensures.made ∙ ap (λ (p : BytePatch). p ∷ []) (patch_is c))
          (subst (λ (areas : List Area). SavesPatched c.in_ok-patch.patch c.args.rest (map words_of areas) answer) c.into_parts-sets.ensures.areas saves),
      patches,
    ))
    c.patched_answer.ensures

pub returns-then-len-had-clause-puts : goal.returns-then-len-had-clause-puts
returns-then-len-had-clause-puts c =
    let found = c.args.found.now in
    let text : List ℕ = length_text (length c.args.bytes.items) (c.from.result * found.raw) in
    let set : c.set_of-set.result ≡ set_at c.args.registry.sets found.region =
    c.set_of-set.ensures ∙ ap (λ (sets : List (List Mapping)). set_at sets found.region) c.into_parts-sets.ensures.sets in
    let had : c.from.result * found.raw ≡ length (set_at c.args.registry.sets found.region) * found.raw = ap (λ (n : ℕ). n * found.raw) (c.from.ensures ∙ c.ways.ensures.ways ∙ ap (λ (s : List Mapping). length s) set) in
    subst (λ (f : Option (List ℕ)). MatchOption f (SavesPatched (patch_of c.args.registry.sets found (Raw c.args.bytes.items) ∷ []) c.args.rest (map words_of c.args.registry.areas) c.without_set.result × Patches c.args.registry.sets found (patch_of c.args.registry.sets found (Raw c.args.bytes.items)))
    (λ refusal. (c.without_set.result.saved ≡ None) × ((contents : List (List ℕ)) → outcome_with c.without_set.result contents ≡ refused_outcome refusal)))
    (sym (misfit (length c.args.bytes.items) (c.from.result * found.raw) (length (set_at c.args.registry.sets found.region) * found.raw) had (λ e. c.if-len-had.true (c.len.ensures ∙ c.args.bytes.ok.0 ∙ e))))
    (c.without_set.ensures.saved, λ contents. c.without_set.ensures.same contents ∙ c.in_ok-length_answer.ensures ∙ ap (λ (n : ℕ). refused_outcome (length_text n (c.from.result * found.raw))) (c.len-then-len-had.ensures ∙ c.args.bytes.ok.0))
