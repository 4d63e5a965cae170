-- An entry of the journal leaves the parts of all sessions but its own.
use Rattle.std.proofs.Common.{◌≡◌, ◌≢◌, ℕ, List, [], ◌∷◌, ◌++◌, Bool, cond, filter, ap, ◌∙◌, eq-eqb, ne_eqb, append-nil}
use Rattle.std.specs.Prelude.{◌==◌}
use Rattle.std.proofs.lemmas.List.Elements.{filter-append}
use Rattle.namespace_ops.specs.Entries.{JournalEntry}
use Rattle.session_account.specs.Parts.{EntriesKeep}

pub entries_keep : EntriesKeep
entries_keep journal e q = (
  λ other. filter-append by journal (e ∷ []) ∙ (ap (λ (b : Bool). filter by journal ++ cond b (e ∷ []) []) (ne_eqb e.tag.session q other) ∙ append-nil (filter by journal)),
  λ is. filter-append by journal (e ∷ []) ∙ ap (λ (b : Bool). filter by journal ++ cond b (e ∷ []) []) (eq-eqb e.tag.session q is),
)
  where
    by : JournalEntry → Bool
    by x = x.tag.session == q
