-- The status of a run that prints a text, and what is due by contents that a source may reveal.
use Rattle.std.proofs.Common.{◌≡◌, ℕ, List, [], take, drop, Option, Some, None, Result, Ok, Err, refl, sym, ap, ◌∙◌, subst, inl, inr, append-nil, take-append-drop}
use Rattle.std.specs.Prelude.{IfOk, OnOk, OnErr}
use Rattle.std.specs.Option.{ForSome}
use Rattle.nvd_media.specs.Images.{Images}
use Rattle.image_set.specs.Outline.{contents_in}
use Rattle.shell_reports.specs.Outcome.{Outcome, printed}
use Rattle.shell_reports.specs.Saved.{outcome_of}
use Rattle.shell_reports.specs.declared.outcome.Report.{Report}
use Rattle.shell_reports.specs.declared.status.Status.{Status}
use Rattle.shell_reports.specs.declared.status.Status.TheVariants as status
use Rattle.shell_export.specs.declared.pieces.PrintStop.{PrintStop}
use Rattle.shell_export.specs.declared.pieces.PrintStop.TheVariants as print_stop
use Rattle.shell_export.proofs.Fronts.{front_of}
use Rattle.shell_export.specs.Printing.{AreHeld, IsPrinted, PrintsAll, PrintsDue, PrintsFront, PrintsMade, PrintsReport}

-- ---- a text without a refusal

pub told : {T : Type 0} (r : Result T PrintStop) (s : Status) (Known : List (List ℕ) → Type 0) (f : List (List ℕ) → List ℕ) (text text' kept kept' : Option (List ℕ))
    → OnOk r (PrintsAll Known f text text' kept kept') → OnErr r (PrintsFront Known f text text')
    → OnOk r (s ≡ status.Ok) → (r ≡ Err print_stop.Read → s ≡ status.ReadFault) → (r ≡ Err print_stop.Write → s ≡ status.WriteFault)
    → PrintsDue Known (λ contents. printed (f contents)) text text' kept kept' s
told (Ok x) s Known f text text' kept kept' all part done read write = inl (printed all.0, (λ contents known. ap printed (all.2 contents known)), refl, done, all.1)
told (Err print_stop.Write) s Known f text text' kept kept' all part done read write = inr (inl (write refl, part))
told (Err print_stop.Read) s Known f text text' kept kept' all part done read write = inr (inr (read refl, (λ contents known. refl), part))

-- a status has the cause of its stop
pub by_read : {T : Type 0} (r : Result T PrintStop) (s : Status) (Cause : Type 0) → (r ≡ Err print_stop.Read → Cause)
    → OnOk r (s ≡ status.Ok) → (r ≡ Err print_stop.Write → s ≡ status.WriteFault) → s ≡ status.ReadFault → Cause
by_read (Ok x) s Cause cause done write is = absurd (let e = sym done ∙ is in cc)
by_read (Err print_stop.Read) s Cause cause done write is = cause refl
by_read (Err print_stop.Write) s Cause cause done write is = absurd (let e = sym (write refl) ∙ is in cc)

pub by_write : {T : Type 0} (r : Result T PrintStop) (s : Status) (Cause : Type 0) → (r ≡ Err print_stop.Write → Cause)
    → OnOk r (s ≡ status.Ok) → (r ≡ Err print_stop.Read → s ≡ status.ReadFault) → s ≡ status.WriteFault → Cause
by_write (Ok x) s Cause cause done read is = absurd (let e = sym done ∙ is in cc)
by_write (Err print_stop.Write) s Cause cause done read is = cause refl
by_write (Err print_stop.Read) s Cause cause done read is = absurd (let e = sym (read refl) ∙ is in cc)

-- ---- by contents of another kind

front_by : (Known Known' : List (List ℕ) → Type 0) (f f' : List (List ℕ) → List ℕ) (text text' : Option (List ℕ))
    → ((contents : List (List ℕ)) → Known' contents → Known contents × (f' contents ≡ f contents)) → PrintsFront Known f text text' → PrintsFront Known' f' text text'
front_by Known Known' f f' text text' more (bytes, says, are) = (
  bytes,
  says,
  λ contents known.
      let own = more contents known in
      let front = are contents own.0 in
      (front.0, own.1 ∙ front.1),
)

pub due_by : (Known Known' : List (List ℕ) → Type 0) (due due' : List (List ℕ) → Outcome) (text text' kept kept' : Option (List ℕ)) (s : Status)
    → ((contents : List (List ℕ)) → Known' contents → Known contents × (due' contents ≡ due contents))
    → PrintsDue Known due text text' kept kept' s → PrintsDue Known' due' text text' kept kept' s
due_by Known Known' due due' text text' kept kept' s more (inl (outcome, is, nothing, ended, all)) =
    inl (outcome, (λ contents known. let own = more contents known in own.1 ∙ is contents own.0), nothing, ended, all)
due_by Known Known' due due' text text' kept kept' s more (inr (inl (ended, front))) =
    inr (inl (
      ended,
      front_by Known Known' (λ contents. (due contents).text) (λ contents. (due' contents).text) text text'
          (λ contents known. let own = more contents known in (own.0, ap (λ (o : Outcome). o.text) own.1)) front,
    ))
due_by Known Known' due due' text text' kept kept' s more (inr (inr (ended, done, front))) =
    inr (inr (
      ended,
      (λ contents known. let own = more contents known in ap (λ (o : Outcome). o.ending) own.1 ∙ done contents own.0),
      front_by Known Known' (λ contents. (due contents).text) (λ contents. (due' contents).text) text text'
          (λ contents known. let own = more contents known in (own.0, ap (λ (o : Outcome). o.text) own.1)) front,
    ))

-- a report says what is due
pub due_report : (Known : List (List ℕ) → Type 0) (due : List (List ℕ) → Outcome) (outcome : Outcome) (text text' kept kept' : Option (List ℕ)) (s : Status)
    → outcome.saved ≡ None → ((contents : List (List ℕ)) → Known contents → due contents ≡ outcome) → PrintsReport outcome text text' kept kept' s → PrintsDue Known due text text' kept kept' s
due_report Known due outcome text text' kept kept' s nothing is (inl (ended, all)) = inl (outcome, is, nothing, ended, all)
due_report Known due outcome text text' kept kept' s nothing is (inr (ended, front)) =
    inr (inl (
      ended,
      (
        take front.0 outcome.text,
        front.1,
        λ contents known.
            (drop front.0 outcome.text, ap (λ (o : Outcome). o.text) (is contents known) ∙ sym (take-append-drop front.0 outcome.text)),
      ),
    ))

-- so does one that was made
pub due_made : (Known : List (List ℕ) → Type 0) (due : List (List ℕ) → Outcome) (text text' kept kept' : Option (List ℕ)) {E F : Type 0} (made : Result Report E) (ended : Result Status F) (Says : Report → Type 0)
    → IfOk made Says → ((report : Report) → Says report → (contents : List (List ℕ)) → Known contents → due contents ≡ outcome_of report)
    → IfOk ended (PrintsMade made text text' kept kept') → IfOk ended (PrintsDue Known due text text' kept kept')
due_made Known due text text' kept kept' made (Err e) Says says is printed = tt
due_made Known due text text' kept kept' {E} made (Ok s) Says says is printed =
    due_report Known due (outcome_of printed.0) text text' kept kept' s refl (is printed.0 (subst (λ (r : Result Report E). IfOk r Says) printed.1 says)) printed.2

-- ---- the contents of a source

module _ (due : List (List ℕ) → Outcome) (nothing : (contents : List (List ℕ)) → (due contents).saved ≡ None) (count : ℕ) (text text' kept kept' : Option (List ℕ)) (s : Status) where
  abbrev Due : Option Images → Outcome → Type 0
  Due held outcome = ForSome held (λ source. outcome ≡ due (contents_in source count))

  -- what the source doesn't reveal may be anything
  pub settled : (held : Option Images) → PrintsDue (AreHeld held count) due text text' kept kept' s → IsPrinted (Due held) text text' kept kept' s
  settled held (inl (outcome, is, none, ended, all)) = (outcome, (λ source told. sym (is (contents_in source count) (source, told, refl))), none, inl (ended, all))
  settled None (inr (inl (ended, front))) = (printed front.0, (λ source told. absurd (let e = told in cc)), refl, inr (inl (ended, front_of front.0 front.0 [] text text' (sym (append-nil front.0)) front.1)))
  settled None (inr (inr (ended, done, front))) = (printed front.0, (λ source told. absurd (let e = told in cc)), refl, inr (inr (ended, refl, front_of front.0 front.0 [] text text' (sym (append-nil front.0)) front.1)))
  settled (Some source) (inr (inl (ended, front))) =
      let own = front.2 (contents_in source count) (source, refl, refl) in (
        due (contents_in source count),
        (λ other told. ap (λ (o : Images). due (contents_in o count)) (let e : source ≡ other = cc in e)),
        nothing (contents_in source count),
        inr (inl (ended, front_of (due (contents_in source count)).text front.0 own.0 text text' own.1 front.1)),
      )
  settled (Some source) (inr (inr (ended, done, front))) =
      let own = front.2 (contents_in source count) (source, refl, refl) in (
        due (contents_in source count),
        (λ other told. ap (λ (o : Images). due (contents_in o count)) (let e : source ≡ other = cc in e)),
        nothing (contents_in source count),
        inr (inr (ended, done (contents_in source count) (source, refl, refl), front_of (due (contents_in source count)).text front.0 own.0 text text' own.1 front.1)),
      )
