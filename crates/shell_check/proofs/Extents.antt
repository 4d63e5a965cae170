-- An extent without words, and the namespace over the words of all modules.
use Rattle.std.proofs.Common.{◌≡◌, ℕ, List, [], Option, ap, ◌∙◌}
use Rattle.nfit_reader.specs.declared.table.Mapping.{Mapping}
use Rattle.bad_ranges.specs.Bad.{bad_words}
use Rattle.power_cut.specs.Namespace.{Namespace, over, words_of}
use Rattle.namespace_words.specs.Source.{words_by}
use Rattle.sector_namespaces.specs.View.{rows_of}
use Rattle.arena_repair.specs.Chain.{reports_of}
use Rattle.shell_check.proofs.Empty.{bad_over}

module _ (set : List Mapping) (offset raw : ℕ) (n : Namespace) (made : n ≡ over set offset raw []) (contents : List (List ℕ)) (bad : List (Option (List ℕ))) where
  abbrev e : Namespace
  e = over set offset raw (rows_of contents)

  pub bad_there : bad_words n bad ≡ bad_words e bad
  bad_there = ap (λ (x : Namespace). bad_words x bad) made ∙ bad_over set offset raw [] (rows_of contents) bad

  pub reports_there : (parent : List ℕ) → reports_of (bad_words n bad) (words_by n contents) parent ≡ reports_of (bad_words e bad) (words_of e).kept parent
  reports_there parent = λ i. reports_of (bad_there i) (words_by (made i) contents) parent
