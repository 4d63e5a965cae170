-- Counts of claims after a command.
use Rattle.std.proofs.Common.{◌≡◌, ℕ, ◌+◌, ◌-◌, ◌≤◌, Bool, List, [], ◌∷◌, length, Option, Some, None, Ok, Err, refl, sym, ap, subst, inl, inr, arith}
use Rattle.std.specs.Prelude.{not, filter}
use Rattle.std.specs.List.{AllByRecursion}
use Rattle.std.specs.Str.{bytes_eq}
use Rattle.std.proofs.lemmas.Bool.{cases_Bool}
use Rattle.namespace_map.specs.Namespaces.{NamespaceEntry, Namespaces, lookup}
use Rattle.namespace_map.specs.declared.commands.Command.{Command}
use Rattle.namespace_map.specs.declared.commands.Command.TheVariants as command
use Rattle.namespace_map.specs.Commands.{deleted_entry, done, renamed_entry}
use Rattle.namespace_ops.specs.Claims.{count_of, with_count}
use Rattle.namespace_ops.specs.Counted.{Answered, State, namespaces_in}
use Rattle.namespace_ops.specs.Entries.{Reply}

-- none of the counts is above a number
abbrev pub AreWithin : ℕ → List (List ℕ × ℕ) → Type 0
AreWithin n counts = AllByRecursion (λ c. c.1 ≤ n) counts

pub more : (n : ℕ) (counts : List (List ℕ × ℕ)) → AreWithin n counts → AreWithin (n + 1) counts
more n [] all = tt
more n (c ∷ cs) (one, rest) = (omega (arith, one), more n cs rest)

-- what is left of counts when one is taken out
pub left_within : (n : ℕ) (t : List ℕ × ℕ → Bool) (counts : List (List ℕ × ℕ)) → AreWithin n counts → AreWithin n (filter t counts)
left_within n t [] all = tt
left_within n t (c ∷ cs) (one, rest) =
    let on : AreWithin n (filter t cs) = left_within n t cs rest in
    elim (cases_Bool (t c)) [ inl it ↦ rw it (one, on) | inr not_it ↦ rw not_it on ]

pub left_length : {X : Type 0} (t : X → Bool) (xs : List X) → length (filter t xs) ≤ length xs
left_length t [] = omega arith
left_length t (x ∷ xs) =
    let on : length (filter t xs) ≤ length xs = left_length t xs in
    elim (cases_Bool (t x)) [ inl it ↦ rw it (omega (arith, on)) | inr not_it ↦ rw not_it (omega (arith, on)) ]

pub count_within : (n : ℕ) (uuid : List ℕ) (counts : List (List ℕ × ℕ)) → AreWithin n counts → count_of counts uuid ≤ n
count_within n uuid [] all = omega arith
count_within n uuid (c ∷ cs) (one, rest) =
    elim (cases_Bool (bytes_eq c.0 uuid)) [ inl it ↦ rw it one | inr not_it ↦ rw not_it (count_within n uuid cs rest) ]

-- a call adds at most one count, and at most 1 to one
pub record Grows (n : ℕ) (old new : List (List ℕ × ℕ)) : Type 0 where
  pub within : AreWithin (n + 1) new
  pub longer : length new ≤ length old + 1

same_grows : (n : ℕ) (old new : List (List ℕ × ℕ)) → AreWithin n old → new ≡ old → Grows n old new
same_grows n old new all same = subst (λ (cs : List (List ℕ × ℕ)). Grows n old cs) (sym same) (record { within = more n old all; longer = omega arith })

count_grows : (n : ℕ) (old : List (List ℕ × ℕ)) (uuid : List ℕ) (k : ℕ) → AreWithin n old → k ≤ n + 1 → Grows n old (with_count old uuid k)
count_grows n old uuid k all small = record {
  within = (small, left_within (n + 1) _ old (more n old all));
  longer = let l : length (filter (λ (c : List ℕ × ℕ). not (bytes_eq c.0 uuid)) old) ≤ length old = left_length _ old in omega (arith, l);
}

deleted_same : (ns : Namespaces) (o : Option NamespaceEntry) → (deleted_entry ns o).claims ≡ ns.claims
deleted_same ns None = refl
deleted_same ns (Some e) = refl

renamed_same : (ns : Namespaces) (name : List ℕ) (o : Option NamespaceEntry) → (renamed_entry ns name o).claims ≡ ns.claims
renamed_same ns name None = refl
renamed_same ns name (Some e) = refl

done_grows : (n : ℕ) (ns : Namespaces) (c : Command) → AreWithin n ns.claims → Grows n ns.claims (done ns c).claims
done_grows n ns (command.Create spec) all = same_grows n ns.claims _ all refl
done_grows n ns (command.Delete uuid) all = same_grows n ns.claims _ all (deleted_same ns (lookup uuid ns.entries))
done_grows n ns (command.Rename uuid name) all = same_grows n ns.claims _ all (renamed_same ns _ (lookup uuid ns.entries))
done_grows n ns (command.Claim uuid) all = let at : count_of ns.claims uuid ≤ n = count_within n uuid ns.claims all in count_grows n ns.claims uuid (count_of ns.claims uuid + 1) all (omega (arith, at))
done_grows n ns (command.Unclaim uuid) all = let at : count_of ns.claims uuid ≤ n = count_within n uuid ns.claims all in count_grows n ns.claims uuid (count_of ns.claims uuid - 1) all (omega (arith, at))

pub answered_grows : (n : ℕ) (old new : State) (fuse left : Option ℕ) (c : Command) (reply : Reply) → Answered old new fuse left c reply → AreWithin n old.claims → Grows n old.claims new.claims
answered_grows n old new fuse left c (Ok x) is all =
    subst (λ (cs : List (List ℕ × ℕ)). Grows n old.claims cs) (sym (ap (λ (ns : Namespaces). ns.claims) is.done)) (done_grows n (namespaces_in old) c all)
answered_grows n old new fuse left c (Err f) is all = same_grows n old.claims new.claims all (is.claims refl)
