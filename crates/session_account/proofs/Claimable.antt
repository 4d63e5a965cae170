-- What may be claimed after a command could be claimed before it.
use Rattle.std.proofs.Common.{◌≡◌, ◌⊎◌, inl, inr, ℕ, Bool, true, false, not, cond, List, [], ◌∷◌, Option, Some, None, refl, sym, ap, ◌∙◌, subst}
use Rattle.std.specs.Str.{bytes_eq}
use Rattle.std.proofs.lemmas.Slice.Eq.{bytes_eq-Decides}
use Rattle.nvd_words.specs.Checks.{first_fault, fault_if}
use Rattle.std.specs.Option.{option_map}
use Rattle.label_codec.specs.declared.mode.Mode.{Mode}
use Rattle.label_set.specs.declared.placed.SetStatus.{SetStatus}
use Rattle.namespace_map.specs.Namespaces.{NamespaceEntry, Namespaces, lookup, put, without}
use Rattle.namespace_map.proofs.Entries.{lookup_put}
use Rattle.namespace_laws.proofs.Agrees.{lookup_without}
use Rattle.namespace_map.specs.declared.commands.Command.{Command}
use Rattle.namespace_map.specs.declared.commands.Command.TheVariants as command
use Rattle.namespace_map.specs.declared.commands.Make.{Make}
use Rattle.namespace_map.specs.declared.commands.Make.TheVariants as make
use Rattle.sector_namespaces.specs.Creation.{has_sectors}
use Rattle.namespace_map.specs.declared.commands.Named.{Named}
use Rattle.namespace_map.specs.declared.refused.OpRefused.{OpRefused}
use Rattle.namespace_map.specs.declared.refused.OpRefused.TheVariants.{NotSector, NotComplete, ReadOnlyLabel}
use Rattle.namespace_map.specs.Commands.{done, mode_for, refusal_of, entry_refusal, bad_name, is_complete, is_sector, new_entry, renamed, name_in, deleted_entry, renamed_entry, short_of, entry_modules}
use Rattle.session_account.specs.Registering.{IsClaimable, ClaimableBefore}

-- why an entry isn't claimed
abbrev pub why : Option NamespaceEntry → Option OpRefused
why o = entry_refusal o (λ e. fault_if (not (is_sector e.mode)) NotSector ∷ [])

at_put : (es : List NamespaceEntry) (e : NamespaceEntry) (u : List ℕ) → (why (Some e) ≡ None → bytes_eq e.uuid u ≡ true → why (lookup u es) ≡ None) → why (lookup u (put e es)) ≡ None → why (lookup u es) ≡ None
at_put es e u here h = by (bytes_eq e.uuid u) refl (ap why (sym (lookup_put es e u)) ∙ h)
  where
    by : (b : Bool) → bytes_eq e.uuid u ≡ b → why (cond b (Some e) (lookup u es)) ≡ None → why (lookup u es) ≡ None
    by true is w = here w is
    by false is w = w

at_without : (es : List NamespaceEntry) (v u : List ℕ) → why (lookup u (without v es)) ≡ None → why (lookup u es) ≡ None
at_without es v u h = by (bytes_eq v u) (ap why (sym (lookup_without es v u)) ∙ h)
  where
    by : (b : Bool) → why (cond b None (lookup u es)) ≡ None → why (lookup u es) ≡ None
    by true w = absurd (cc)
    by false w = w

found_is : (es : List NamespaceEntry) (v : List ℕ) (e : NamespaceEntry) → lookup v es ≡ Some e → bytes_eq e.uuid v ≡ true
found_is [] v e h = absurd (cc)
found_is (f ∷ fs) v e h = by (bytes_eq f.uuid v) refl h (found_is fs v e)
  where
    by : (b : Bool) → bytes_eq f.uuid v ≡ b → cond b (Some f) (lookup v fs) ≡ Some e → (lookup v fs ≡ Some e → bytes_eq e.uuid v ≡ true) → bytes_eq e.uuid v ≡ true
    by true is w next = let same : f ≡ e = cc in subst (λ (x : NamespaceEntry). bytes_eq x.uuid v ≡ true) same is
    by false is w next = next w

passed_first : (b : Bool) (f : OpRefused) (rest : List (Option OpRefused)) → first_fault (fault_if (not b) f ∷ rest) ≡ None → (b ≡ true) × (first_fault rest ≡ None)
unfolding first_fault
passed_first true f rest h = (refl, h)
passed_first false f rest h = absurd (cc)

passed_second : (o p : Option OpRefused) → first_fault (o ∷ p ∷ []) ≡ None → p ≡ None
unfolding first_fault
passed_second None None h = refl
passed_second None (Some f) h = absurd (cc)
passed_second (Some f) p h = absurd (cc)

passes_both : (a b : Bool) → a ≡ true → b ≡ true → first_fault (fault_if (not a) NotComplete ∷ fault_if (not b) NotSector ∷ []) ≡ None
unfolding first_fault
passes_both true true h k = refl
passes_both false b h k = absurd (cc)
passes_both true false h k = absurd (cc)

new_is_raw : (e : NamespaceEntry) → is_sector e.mode ≡ false → why (Some e) ≡ None → ⊥
new_is_raw e raw w = let second = passed_first (is_sector e.mode) NotSector [] (passed_first (is_complete e.status) NotComplete (fault_if (not (is_sector e.mode)) NotSector ∷ []) w).1 in absurd (let x : true ≡ false = sym second.0 ∙ raw in cc)

-- what a rename looks at behind completeness
abbrev pub further : Namespaces → NamespaceEntry → List (Option OpRefused)
further ns e = option_map (λ number. ReadOnlyLabel number) e.read_only ∷ short_of ns 1 (entry_modules e) ∷ []

renamed_too : (ns : Namespaces) (uuid u : List ℕ) (name : Named) (o : Option NamespaceEntry) → lookup uuid ns.entries ≡ o → refusal_of ns (command.Rename uuid name) ≡ None
    → IsClaimable (renamed_entry ns (name_in name) o) u → IsClaimable ns u
renamed_too ns uuid u name None is allowed h = h
renamed_too ns uuid u name (Some e) is allowed h = at_put ns.entries (renamed e (name_in name)) u here h
  where
    here : why (Some (renamed e (name_in name))) ≡ None → bytes_eq e.uuid u ≡ true → why (lookup u ns.entries) ≡ None
    here w at_u =
        let sector : is_sector e.mode ≡ true = (passed_first (is_sector e.mode) NotSector [] (passed_first true NotComplete (fault_if (not (is_sector e.mode)) NotSector ∷ []) w).1).0 in
        let refusal : entry_refusal (lookup uuid ns.entries) (further ns) ≡ None = passed_second (bad_name name) (entry_refusal (lookup uuid ns.entries) (further ns)) allowed in
        let whole : entry_refusal (Some e) (further ns) ≡ None = ap (λ (o : Option NamespaceEntry). entry_refusal o (further ns)) (sym is) ∙ refusal in
        let complete : is_complete e.status ≡ true = (passed_first (is_complete e.status) NotComplete (further ns e) whole).0 in
        let same : u ≡ uuid = sym ((bytes_eq-Decides e.uuid u).0 at_u) ∙ (bytes_eq-Decides e.uuid uuid).0 (found_is ns.entries uuid e is) in
        ap (λ (v : List ℕ). why (lookup v ns.entries)) same ∙ ap why is ∙ passes_both (is_complete e.status) (is_sector e.mode) complete sector

deleted_too : (ns : Namespaces) (u : List ℕ) (o : Option NamespaceEntry) → IsClaimable (deleted_entry ns o) u → IsClaimable ns u
deleted_too ns u None h = h
deleted_too ns u (Some e) h = at_without ns.entries e.uuid u h

raw_mode : (made : Make) → has_sectors made ≡ false → is_sector (mode_for made) ≡ false
raw_mode make.Raw h = refl
raw_mode (make.Sector sector lanes) h = absurd (cc)

pub claimable_before : ClaimableBefore
claimable_before ns (command.Create spec) u plain allowed h = at_put ns.entries (new_entry ns spec) u (λ w is. absurd (new_is_raw (new_entry ns spec) (raw_mode spec.make plain) w)) h
claimable_before ns (command.Delete uuid) u plain allowed h = deleted_too ns u (lookup uuid ns.entries) h
claimable_before ns (command.Rename uuid name) u plain allowed h = renamed_too ns uuid u name (lookup uuid ns.entries) refl allowed h
claimable_before ns (command.Claim uuid) u plain allowed h = h
claimable_before ns (command.Unclaim uuid) u plain allowed h = h
