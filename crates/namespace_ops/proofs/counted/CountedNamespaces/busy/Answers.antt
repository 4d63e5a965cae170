use Rattle.std.proofs.Common.{◌≡◌, ℕ, Bool, true, Some, sym, ap, ◌∙◌, subst, if◌then◌else◌}
use Rattle.std.specs.Prelude.{nat_lt, ◌<◌}
use Rattle.std.proofs.lemmas.Bool.{lt-ltb}
use Rattle.namespace_map.specs.Namespaces.{lookup}
use Rattle.namespace_map.specs.declared.refused.OpRefused.TheVariants.{Busy}
use Rattle.namespace_ops.specs.Claims.{count_of}
use Rattle.namespace_ops.specs.Counted.{namespaces_in}
use Rattle.namespace_ops.specs.Counting.{state_in}
use Rattle.namespace_ops.specs.Entries.{Reply}
use Rattle.namespace_ops.proofs.Busy.{busy_is, busy_or}
use Rattle.namespace_ops.proofs.counted.CountedNamespaces.busy.Goals as goal

pub returns-then-is_first : goal.returns-then-is_first
returns-then-is_first c =
    let counts = c.args.self.now.claims.counts in
    let n : ℕ = count_of counts c.args.uuid.now in
    let some : nat_lt 0 n ≡ true = lt-ltb 0 n (subst (λ (k : ℕ). 0 < k) c.requires.count c.requires.claimed) in
    busy_is (lookup c.args.uuid.now (namespaces_in (state_in c.args.self.now)).entries) n _ some
    ∙ ap (λ (r : Reply). Some (busy_or r n)) (sym c.in-Err.ensures.answer)
    ∙ ap (λ (b : Bool). Some (if b then c.in-Err.refused else Busy n)) (sym c.is_first.ensures ∙ c.if-is_first.true)

pub returns-else-is_first : goal.returns-else-is_first
returns-else-is_first c =
    let counts = c.args.self.now.claims.counts in
    let n : ℕ = count_of counts c.args.uuid.now in
    let some : nat_lt 0 n ≡ true = lt-ltb 0 n (subst (λ (k : ℕ). 0 < k) c.requires.count c.requires.claimed) in
    busy_is (lookup c.args.uuid.now (namespaces_in (state_in c.args.self.now)).entries) n _ some
    ∙ ap (λ (r : Reply). Some (busy_or r n)) (sym c.in-Err.ensures.answer)
    ∙ ap (λ (b : Bool). Some (if b then c.in-Err.refused else Busy n)) (sym c.is_first.ensures ∙ c.if-is_first.false)
    ∙ ap (λ (k : ℕ). Some (Busy k)) (sym c.requires.count)

pub returns-in-Ok : goal.returns-in-Ok
returns-in-Ok c =
    let counts = c.args.self.now.claims.counts in
    let n : ℕ = count_of counts c.args.uuid.now in
    let some : nat_lt 0 n ≡ true = lt-ltb 0 n (subst (λ (k : ℕ). 0 < k) c.requires.count c.requires.claimed) in
    busy_is (lookup c.args.uuid.now (namespaces_in (state_in c.args.self.now)).entries) n _ some
    ∙ ap (λ (r : Reply). Some (busy_or r n)) (sym c.in-Ok.ensures.answer)
    ∙ ap (λ (k : ℕ). Some (Busy k)) (sym c.requires.count)
