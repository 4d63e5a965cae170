-- Lines of regions, piece by piece.
use Rattle.std.proofs.Common.{◌≡◌, ◌≢◌, ℕ, ◌+◌, ◌<◌, List, ◌++◌, length, get_or, drop, None, Result, Ok, Err, sym, ap, ◌∙◌, subst}
use Rattle.std.proofs.lemmas.List.{at_drop_more, append_assoc}
use Rattle.std.specs.Prelude.{OnOk, slice_index_or, codes}
use Rattle.std.specs.Fmt.{decimal}
use Rattle.nfit_reader.specs.declared.table.Mapping.{Mapping}
use Rattle.nfit_reader.specs.declared.table.Region.{Region}
use Rattle.interleave.specs.declared.set.SetFault.{SetFault}
use Rattle.interleave.specs.declared.set.SetFault.TheVariants.{OutOfMemory}
use Rattle.shell_reports.specs.Nfit.{members_text, reading_text}

-- a placeholder for a mapping
pub none : Mapping
none = record { «module» = 0; size = 0; offset = 0; start = 0; ways = 0; lines = None; identity = record { vendor = 0; date = 0; location = 0; serial = 0 } }

-- one module more
pub member_more : (set : List Mapping) (p number : ℕ) (text more text' whole : List ℕ) → p < length set → ((blank : Mapping) → number ≡ (slice_index_or set p blank).«module»)
    → more ≡ codes " " ++ decimal number → text' ≡ text ++ more → text ++ members_text (drop p set) ≡ whole → text' ++ members_text (drop (p + 1) set) ≡ whole
member_more set p number text more text' whole inside is said pushed so_far =
    let rest : List ℕ = members_text (drop (p + 1) set) in
    let said' : more ≡ codes " " ++ decimal (get_or set p none).«module» = said ∙ ap (λ (n : ℕ). codes " " ++ decimal n) (is none) in
    let step : members_text (drop p set) ≡ more ++ rest = at_drop_more members_text set p none inside ∙ ap (λ (x : List ℕ). x ++ rest) (sym said') in
    ap (λ (x : List ℕ). x ++ rest) pushed ∙ append_assoc text more rest ∙ ap (λ (x : List ℕ). text ++ x) (sym step) ∙ so_far

-- the text that was made for a region is the one that is due
region_said : {U E : Type 0} (r : Result U E) (before start middle after : List ℕ) (region : Region) (answer reading : Result (List Mapping) SetFault)
    → middle ≡ before ++ start → (answer ≢ Err OutOfMemory → answer ≡ reading) → OnOk r (after ≡ middle ++ reading_text region answer) → OnOk r (answer ≢ Err OutOfMemory)
    → OnOk r (after ≡ before ++ (start ++ reading_text region reading))
region_said (Ok u) before start middle after region answer reading begun told said finding =
    said ∙ ap (λ (x : List ℕ). x ++ reading_text region answer) begun ∙ append_assoc before start (reading_text region answer)
    ∙ ap (λ (x : Result (List Mapping) SetFault). before ++ (start ++ reading_text region x)) (told finding)
region_said (Err e) before start middle after region answer reading begun told said finding = tt

on_ok : {U E : Type 0} (P : Type 0) (r : Result U E) → P → OnOk r P
on_ok P (Ok u) p = p
on_ok P (Err e) p = tt

if_ok : {U E : Type 0} (P Q : Type 0) (r : Result U E) → (P → Q) → OnOk r P → OnOk r Q
if_ok P Q (Ok u) f p = f p
if_ok P Q (Err e) f p = tt

-- for a region that is a set
pub set_said : {U E : Type 0} (r : Result U E) (before start middle after : List ℕ) (region : Region) (set : List Mapping) (answer reading : Result (List Mapping) SetFault)
    → answer ≡ Ok set → middle ≡ before ++ start → (answer ≢ Err OutOfMemory → answer ≡ reading) → OnOk r (after ≡ middle ++ reading_text region (Ok set))
    → OnOk r (after ≡ before ++ (start ++ reading_text region reading))
set_said r before start middle after region set answer reading is begun told said =
    region_said r before start middle after region answer reading begun told
    (subst (λ (a : Result (List Mapping) SetFault). OnOk r (after ≡ middle ++ reading_text region a)) (sym is) said)
    (on_ok (answer ≢ Err OutOfMemory) r (λ wanting. (let e = sym is ∙ wanting in cc)))

-- for one that isn't
pub none_said : {U E : Type 0} (r : Result U E) (before start middle after : List ℕ) (region : Region) (fault : SetFault) (answer reading : Result (List Mapping) SetFault)
    → answer ≡ Err fault → middle ≡ before ++ start → (answer ≢ Err OutOfMemory → answer ≡ reading) → OnOk r (after ≡ middle ++ reading_text region (Err fault)) → OnOk r (fault ≢ OutOfMemory)
    → OnOk r (after ≡ before ++ (start ++ reading_text region reading))
none_said r before start middle after region fault answer reading is begun told said finding =
    region_said r before start middle after region answer reading begun told
    (subst (λ (a : Result (List Mapping) SetFault). OnOk r (after ≡ middle ++ reading_text region a)) (sym is) said)
    (if_ok (fault ≢ OutOfMemory) (answer ≢ Err OutOfMemory) r (λ other wanting. other (let e = sym is ∙ wanting in cc)) finding)
