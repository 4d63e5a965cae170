-- What a command comes to, with the contents of the source.
use Rattle.std.proofs.Common.{◌≡◌, ◌≢◌, ℕ, Bool, true, false, List, [], Option, Some, None, Result, Ok, Err, length, refl, sym, ap, ◌∙◌, subst}
use Rattle.std.specs.Prelude.{IfOk, IfSome, IsSome, IsTrue, MatchOption, OnOk}
use Rattle.std.specs.Option.{ForSome, option_map}
use Rattle.nvd_media.specs.Images.{Images}
use Rattle.cut_words.specs.Words.{Words}
use Rattle.image_set.specs.declared.fault.LoadFault.{LoadFault}
use Rattle.image_set.specs.declared.fault.LoadFault.TheVariants.{ReadFault, OutOfMemory}
use Rattle.image_set.specs.declared.loading.Loaded.{Loaded}
use Rattle.image_set.specs.declared.outline.Outline.{Outline}
use Rattle.image_set.specs.Load.{ImageSet, Loads, image_set_in, loading}
use Rattle.image_set.specs.Outline.{HasContents, Outlines, contents_in, image_set_with, objects_with}
use Rattle.shell_reports.specs.declared.outcome.Report.{Report}
use Rattle.shell_reports.specs.LoadFaults.{load_outcome}
use Rattle.shell_reports.specs.Outcome.{Outcome, usage}
use Rattle.shell_reports.specs.Saved.{Saves, outcome_of}
use Rattle.shell_reports.proofs.More.{if_more}
use Rattle.shell_changes.specs.declared.answer.Answer.{Answer}
use Rattle.shell_changes.specs.declared.answer.Left.{Left}
use Rattle.shell_changes.specs.declared.answer.Left.TheVariants.{Whole, Copied, Patched}
use Rattle.shell_changes.specs.Answers.{ComesFrom, HasSizes, outcome_with}
use Rattle.shell_changes.specs.Saved.{AreObjects, AreSaved, HasContentsOf, HasItsContents, HasSize, Stores, contents_with, copies_contents, objects_saved}
use Rattle.shell_changes.proofs.Remains.{copies_none}
use Rattle.session_script.specs.declared.schedule.Replay.{Replay}
use Rattle.session_script.specs.declared.script.Script.{Script}
use Rattle.session_script.specs.Schedule.{replay_reading}
use Rattle.session_script.specs.Script.{script_reading}
use Rattle.shell_import.specs.Import.{ImportComes}
use Rattle.shell_replay.specs.declared.schedule.Schedule.{Schedule}
use Rattle.shell_replay.specs.Replay.{ReplayComes}
use Rattle.shell_serve.specs.declared.serving.Running.{Running}
use Rattle.shell_serve.specs.Serve.{ServeComes}
use Rattle.shell_run.specs.declared.scripts.ScriptRefused.{ScriptRefused}
use Rattle.shell_run.specs.declared.words.CommandLine.{CommandLine}
use Rattle.shell_run.specs.declared.words.CommandLine.TheVariants.{Labels, Nfit, Init, Change, Info, Check, CheckSet, RepairSet, Read, Write, Replay as AskReplay, Export, Rescue, Import, Serve, Load}
use Rattle.shell_run.specs.declared.words.CommandLine.TheVariants as command
use Rattle.shell_run.specs.declared.top.Streamed.{Streamed}
use Rattle.shell_run.specs.declared.top.Streamed.TheVariants as streamed
use Rattle.shell_run.specs.Printed.{IsReported, IsUnloaded, Streams, line_of}
use Rattle.shell_set_check.specs.Whole.{set_check_outcome}
use Rattle.shell_run.specs.Run.{Comes, ComesTold, IsDue, LoadedComes, OnImages, OnLoaded, OnScript, OnSource, checks_set, copies, copies_by, copies_found, has_sessions, reads_script, streams, streams_by, streams_found}
use Rattle.shell_run.specs.Scripts.{bytes_in, script_in, script_outcome}
use Rattle.shell_run.specs.Words.{command_of}

-- ---- the outcome of an answer

outcome_is : (answer : Answer) (outcome : Outcome) (contents : List (List ℕ)) → outcome.ending ≡ answer.report.ending → outcome.text ≡ answer.report.text.items
    → outcome.saved ≡ option_map (objects_saved contents) answer.saved → outcome ≡ outcome_with answer contents
outcome_is answer outcome contents ends says saves = λ i. record { ending = ends i; text = says i; saved = saves i }

-- with the contents of a source it is that with so many contents
saved_by : (held : Option Images) (source : Images) (sizes : List ℕ) (saved : Option Left) (set : Option Images) → held ≡ Some source → IfSome saved (HasSize sizes) → AreSaved held saved set
    → set ≡ option_map (objects_saved (contents_in source (length sizes))) saved
saved_by held source sizes None set told sized are = are
saved_by held source sizes (Some (Whole left)) set told sized (objects, is, saves) = saves ∙ ap (λ (o : Images). Some o) is
saved_by held source sizes (Some (Copied left)) set told sized (objects, is, saves) =
    saves ∙ ap (λ (o : Images). Some o) (is source told) ∙ ap (λ (s : List ℕ). Some (objects_with left (contents_in source (length s)))) sized
saved_by held source sizes (Some (Patched left patch)) set told sized (objects, is, saves) =
    saves ∙ ap (λ (o : Images). Some o) (is source told) ∙ ap (λ (s : List ℕ). Some (objects_with left (contents_with patch (contents_in source (length s))))) sized

pub from_with : (held : Option Images) (source : Images) (sizes : List ℕ) (answer : Answer) (outcome : Outcome) → held ≡ Some source → HasSizes sizes answer → ComesFrom held answer outcome
    → outcome ≡ outcome_with answer (contents_in source (length sizes))
from_with held source sizes answer outcome told sized comes =
    outcome_is answer outcome (contents_in source (length sizes)) comes.ends comes.says (saved_by held source sizes answer.saved outcome.saved told sized comes.saves)

-- if no contents are copied it is one, whatever is told
whole_by : (held : Option Images) (contents : List (List ℕ)) (saved : Option Left) (set : Option Images) → copies_contents saved ≡ false → AreSaved held saved set → set ≡ option_map (objects_saved contents) saved
whole_by held contents None set whole are = are
whole_by held contents (Some (Whole left)) set whole (objects, is, saves) = saves ∙ ap (λ (o : Images). Some o) is
whole_by held contents (Some (Copied left)) set whole are = absurd (let e = whole in cc)
whole_by held contents (Some (Patched left patch)) set whole are = absurd (let e = whole in cc)

pub from_whole : (held : Option Images) (contents : List (List ℕ)) (answer : Answer) (outcome : Outcome) → copies_contents answer.saved ≡ false → ComesFrom held answer outcome → outcome ≡ outcome_with answer contents
from_whole held contents answer outcome whole comes = outcome_is answer outcome contents comes.ends comes.says (whole_by held contents answer.saved outcome.saved whole comes.saves)

-- what an answer that saves nothing comes to
pub from_none : (held : Option Images) (answer : Answer) (outcome due : Outcome) → answer.saved ≡ None → ((contents : List (List ℕ)) → outcome_with answer contents ≡ due) → ComesFrom held answer outcome → outcome ≡ due
from_none held answer outcome due none says comes = from_whole held [] answer outcome (copies_none answer none) comes ∙ says []

-- ---- reports

-- an answer that is a report
pub reported_with : {E F X : Type 0} (r : Result Report E) (a : Result Answer F) (due : X → Outcome) → IfOk a (λ answer. r ≡ Ok answer.report) → IfOk a (λ answer. answer.saved ≡ None)
    → IfOk r (λ report. (x : X) → outcome_of report ≡ due x) → IfOk a (λ answer. (x : X) (contents : List (List ℕ)) → outcome_with answer contents ≡ due x)
reported_with {E} {F} {X} r (Ok answer) due same none says = λ x contents.
    let said : (x : X) → outcome_of answer.report ≡ due x = subst (λ (y : Result Report E). IfOk y (λ report. (x : X) → outcome_of report ≡ due x)) same says in
    ap (λ (saved : Option Left). record { ending = answer.report.ending; text = answer.report.text.items; saved = option_map (objects_saved contents) saved }) none ∙ said x
reported_with r (Err e) due same none says = tt

-- what holds of an answer holds of a result with it
pub if_same : {E F : Type 0} (P : Answer → Type 0) (r : Result Answer E) (a : Result Answer F) → IfOk r (λ answer. a ≡ Ok answer) → IfOk a P → IfOk r P
if_same {E} {F} P (Ok answer) a same holds = subst (λ (y : Result Answer F). IfOk y P) same holds
if_same P (Err e) a same holds = tt

pub if_all : {A E : Type 0} (P : A → Type 0) (r : Result A E) → ((x : A) → P x) → IfOk r P
if_all P (Ok x) all = all x
if_all P (Err e) all = tt

-- ---- by the command

module _ (leaves : ℕ → List (Option Words) → List (Option (List ℕ)) → Type 0) (command like : CommandLine) (is : command ≡ like) where
  pub outlined_by : {E : Type 0} (outline : Outline) (r : Result Answer E) → IfOk r (λ answer. (contents : List (List ℕ)) → LoadedComes leaves like (image_set_with outline contents) (outcome_with answer contents))
      → IfOk r (λ answer. (contents : List (List ℕ)) → LoadedComes leaves command (image_set_with outline contents) (outcome_with answer contents))
  outlined_by outline r comes = subst (λ (c : CommandLine). IfOk r (λ answer. (contents : List (List ℕ)) → LoadedComes leaves c (image_set_with outline contents) (outcome_with answer contents))) (sym is) comes

  -- whatever the contents are, so with those of the source
  pub source_by : {E F : Type 0} (held : Option Images) (outline : Outline) (r : Result Answer E) (a : Result Answer F) → IfOk a (λ answer. r ≡ Ok answer)
      → IfOk r (λ answer. (contents : List (List ℕ)) → LoadedComes leaves like (image_set_with outline contents) (outcome_with answer contents)) → IfOk a (OnSource (LoadedComes leaves command) held outline)
  source_by held outline r a same comes =
      if_same (OnSource (LoadedComes leaves command) held outline) a r same
      (if_more _ (OnSource (LoadedComes leaves command) held outline) r (λ answer all source told. all (contents_in source (length outline.sizes))) (outlined_by outline r comes))

  pub source_of : {E : Type 0} (held : Option Images) (outline : Outline) (r : Result Answer E) → IfOk r (OnSource (LoadedComes leaves like) held outline) → IfOk r (OnSource (LoadedComes leaves command) held outline)
  source_of held outline r comes = subst (λ (c : CommandLine). IfOk r (OnSource (LoadedComes leaves c) held outline)) (sym is) comes

  pub copies_by_it : {E : Type 0} (r : Result Answer E) → copies like ≡ true → IfOk r (λ answer. IsTrue (copies_contents answer.saved) → IsTrue (copies command))
  copies_by_it r does = if_all (λ (answer : Answer). IsTrue (copies_contents answer.saved) → IsTrue (copies command)) r (λ answer copied. subst (λ (b : Bool). IsTrue b) (sym (ap copies is ∙ does)) refl)

-- a report
pub report_comes : {E F : Type 0} (r : Result Report E) (a : Result Answer F) (due : List (List ℕ) → Outcome) → IfOk a (λ answer. r ≡ Ok answer.report) → IfOk a (λ answer. answer.saved ≡ None)
    → IfOk r (λ report. (contents : List (List ℕ)) → outcome_of report ≡ due contents) → IfOk a (λ answer. (contents : List (List ℕ)) → outcome_with answer contents ≡ due contents)
report_comes r a due same none says = if_more _ _ a (λ answer all contents. all contents contents) (reported_with r a due same none says)

pub report_is : {E F : Type 0} (r : Result Report E) (a : Result Answer F) (due : Outcome) → IfOk a (λ answer. r ≡ Ok answer.report) → IfOk a (λ answer. answer.saved ≡ None)
    → IfOk r (λ report. outcome_of report ≡ due) → IfOk a (λ answer. (contents : List (List ℕ)) → outcome_with answer contents ≡ due)
report_is {E} r a due same none says =
    report_comes r a (λ _. due) same none (if_more _ (λ report. (contents : List (List ℕ)) → outcome_of report ≡ due) r (λ report said contents. said) says)

-- ---- contents that are copied

pub none_copied : (saved : Option Left) (P : Type 0) → copies_contents saved ≡ false → IsTrue (copies_contents saved) → P
none_copied saved P whole does = absurd (let e = subst (λ (b : Bool). IsTrue b) whole does in cc)

there_by : (saved : Option Left) (source : Images) → copies_contents saved ≡ false → IfSome saved (λ left. HasItsContents left source)
there_by None source whole = tt
there_by (Some (Whole left)) source whole = tt
there_by (Some (Copied left)) source whole = absurd (let e = whole in cc)
there_by (Some (Patched left patch)) source whole = absurd (let e = whole in cc)

-- there are none, so they are there
pub whole_there : (held : Option Images) (saved : Option Left) → copies_contents saved ≡ false → HasContentsOf held saved
whole_there held saved whole = λ source told. there_by saved source whole

contents_by : (saved : Option Left) (sizes : List ℕ) (source : Images) → IfSome saved (HasSize sizes) → HasContents sizes source → IfSome saved (λ left. HasItsContents left source)
contents_by None sizes source sized has = tt
contents_by (Some (Whole left)) sizes source sized has = tt
contents_by (Some (Copied left)) sizes source sized has = subst (λ (s : List ℕ). HasContents s source) (sym sized) has
contents_by (Some (Patched left patch)) sizes source sized has = subst (λ (s : List ℕ). HasContents s source) (sym sized) has

-- or they have the sizes that are stated
pub outline_there : (held : Option Images) (loaded : Result Outline LoadFault) (outline : Outline) (answer : Answer) → loaded ≡ Ok outline → ForSome held (λ set. IfOk loaded (λ o. HasContents o.sizes set))
    → HasSizes outline.sizes answer → HasContentsOf held answer.saved
outline_there held loaded outline answer is there sized = λ source told.
    contents_by answer.saved outline.sizes source sized (subst (λ (l : Result Outline LoadFault). IfOk l (λ o. HasContents o.sizes source)) is (there source told))

pub some_copied : (saved : Option Left) → IsTrue (copies_contents saved) → IsSome saved
some_copied None does = absurd (let e = does in cc)
some_copied (Some left) does = refl

-- ---- a set that is saved

-- the contents that are copied have the sizes that are stated
pub set_there : (held : Option Images) (saved : Option Left) (set : Left) → saved ≡ Some set → HasContentsOf held saved → ForSome held (HasItsContents set)
set_there held saved set is there = λ source told. subst (λ (s : Option Left). IfSome s (λ left. HasItsContents left source)) is (there source told)

-- its objects are those of the answer
pub set_saved : {T E : Type 0} (held : Option Images) (saved : Option Left) (set : Left) (made made' kept kept' : Option Images) → saved ≡ Some set → (r : Result T E)
    → OnOk r ((objects : Images) × AreObjects held set objects × Saves (Some objects) made made' × Stores (Some objects) kept kept')
    → OnOk r ((all : Option Images) × AreSaved held saved all × Saves all made made' × Stores all kept kept')
set_saved held saved set made made' kept kept' is (Ok x) (objects, are, saves, stores) =
    subst (λ (s : Option Left). (all : Option Images) × AreSaved held s all × Saves all made made' × Stores all kept kept') (sym is) (Some objects, (objects, are, refl), saves, stores)
set_saved held saved set made made' kept kept' is (Err e) none = tt

-- ---- on the images that are loaded

module _ (comes : ImageSet → Outcome → Type 0) (held : Option Images) where
  -- what an answer comes to is due on the images, as far as they are told
  abbrev pub IsTold : Answer → Type 0
  IsTold answer = (outcome : Outcome) → ComesFrom held answer outcome → OnImages comes held outcome

  -- an answer on an outline, from what it comes to with the source's contents
  pub outlined_with : (loaded : Result Outline LoadFault) (outline : Outline) (answer : Answer) → loaded ≡ Ok outline → ForSome held (Outlines loaded) → HasSizes outline.sizes answer
      → ForSome held (λ set. comes (image_set_with outline (contents_in set (length outline.sizes))) (outcome_with answer (contents_in set (length outline.sizes)))) → IsTold answer
  outlined_with loaded outline answer is told sized due = λ outcome from set at.
      let contents = contents_in set (length outline.sizes) in
      let told' : ForSome held (Outlines (Ok outline)) = subst (λ (l : Result Outline LoadFault). ForSome held (Outlines l)) is told in
      let loads : Ok (image_set_with outline contents) ≡ loading set = told' set at (λ e. (let h = e in cc)) (λ e. (let h = e in cc)) in
      let same : outcome ≡ outcome_with answer contents = from_with held set outline.sizes answer outcome at sized from in
      subst (λ (o : Outcome). OnLoaded comes (loading set) o) (sym same)
      (subst (λ (l : Result ImageSet LoadFault). OnLoaded comes l (outcome_with answer contents)) loads (due set at))

  pub outlined_told : (loaded : Result Outline LoadFault) (outline : Outline) (answer : Answer) → loaded ≡ Ok outline → ForSome held (Outlines loaded) → HasSizes outline.sizes answer
      → ((contents : List (List ℕ)) → comes (image_set_with outline contents) (outcome_with answer contents)) → IsTold answer
  outlined_told loaded outline answer is told sized due = outlined_with loaded outline answer is told sized (λ set at. due (contents_in set (length outline.sizes)))

  pub unoutlined_told : (loaded : Result Outline LoadFault) (fault : LoadFault) (answer : Answer) → loaded ≡ Err fault → ForSome held (Outlines loaded) → answer.saved ≡ None
      → ((contents : List (List ℕ)) → outcome_with answer contents ≡ load_outcome fault) → fault ≢ ReadFault → fault ≢ OutOfMemory → IsTold answer
  unoutlined_told loaded fault answer is told nothing says read memory = λ outcome from set at.
      let told' : ForSome held (Outlines (Err fault)) = subst (λ (l : Result Outline LoadFault). ForSome held (Outlines l)) is told in
      let none : Err fault ≡ loading set = told' set at (λ e. read (let h = e in cc)) (λ e. memory (let h = e in cc)) in
      subst (λ (l : Result ImageSet LoadFault). OnLoaded comes l outcome) none (from_none held answer outcome (load_outcome fault) nothing says from)

  -- an outcome on the set that is loaded
  pub loaded_on : (found : Result Loaded LoadFault) (loaded : Loaded) (outcome : Outcome) → found ≡ Ok loaded → ForSome held (Loads found) → comes (image_set_in loaded) outcome → OnImages comes held outcome
  loaded_on found loaded outcome is told due = λ set at.
      let told' : ForSome held (Loads (Ok loaded)) = subst (λ (l : Result Loaded LoadFault). ForSome held (Loads l)) is told in
      let loads : Ok (image_set_in loaded) ≡ loading set = told' set at (λ e. (let h = e in cc)) (λ e. (let h = e in cc)) in
      subst (λ (l : Result ImageSet LoadFault). OnLoaded comes l outcome) loads due

  -- an outcome on the outline that is loaded, from what it is with the source's contents
  pub outlined_on : (found : Result Outline LoadFault) (outline : Outline) (outcome : Outcome) → found ≡ Ok outline → ForSome held (Outlines found)
      → ForSome held (λ set. comes (image_set_with outline (contents_in set (length outline.sizes))) outcome) → OnImages comes held outcome
  outlined_on found outline outcome is told due = λ set at.
      let told' : ForSome held (Outlines (Ok outline)) = subst (λ (l : Result Outline LoadFault). ForSome held (Outlines l)) is told in
      let loads : Ok (image_set_with outline (contents_in set (length outline.sizes))) ≡ loading set = told' set at (λ e. (let h = e in cc)) (λ e. (let h = e in cc)) in
      subst (λ (l : Result ImageSet LoadFault). OnLoaded comes l outcome) loads (due set at)

  -- the outcome if none is
  pub unloaded_on : (found : Result Loaded LoadFault) (fault : LoadFault) (outcome : Outcome) → found ≡ Err fault → ForSome held (Loads found) → IsUnloaded fault outcome → OnImages comes held outcome
  unloaded_on found fault outcome is told unloaded = λ set at.
      let told' : ForSome held (Loads (Err fault)) = subst (λ (l : Result Loaded LoadFault). ForSome held (Loads l)) is told in
      let none : Err fault ≡ loading set = told' set at (λ e. unloaded.0 (let h = e in cc)) (λ e. unloaded.1 (let h = e in cc)) in
      subst (λ (l : Result ImageSet LoadFault). OnLoaded comes l outcome) none unloaded.2

  pub unoutlined_on : (found : Result Outline LoadFault) (fault : LoadFault) (outcome : Outcome) → found ≡ Err fault → ForSome held (Outlines found) → IsUnloaded fault outcome → OnImages comes held outcome
  unoutlined_on found fault outcome is told unloaded = λ set at.
      let told' : ForSome held (Outlines (Err fault)) = subst (λ (l : Result Outline LoadFault). ForSome held (Outlines l)) is told in
      let none : Err fault ≡ loading set = told' set at (λ e. unloaded.0 (let h = e in cc)) (λ e. unloaded.1 (let h = e in cc)) in
      subst (λ (l : Result ImageSet LoadFault). OnLoaded comes l outcome) none unloaded.2

-- a command with sessions copies contents as it saves
pub session_copies : (c : CommandLine) → has_sessions c ≡ true → IsTrue (copies c)
session_copies (command.Labels m) some = let e = some in cc
session_copies command.Nfit some = let e = some in cc
session_copies command.List some = let e = some in cc
session_copies (command.Init m power) some = let e = some in cc
session_copies (command.Change c power) some = let e = some in cc
session_copies (command.Info uuid) some = let e = some in cc
session_copies (command.Check uuid repair) some = let e = some in cc
session_copies command.CheckSet some = let e = some in cc
session_copies command.RepairSet some = let e = some in cc
session_copies (command.Read uuid sector) some = let e = some in cc
session_copies (command.Write uuid sector value) some = let e = some in cc
session_copies (command.Replay uuid seed) some = let e = some in cc
session_copies (command.Export uuid zeros) some = let e = some in cc
session_copies (command.Rescue uuid listing) some = let e = some in cc
session_copies (command.Import uuid) some = let e = some in cc
session_copies (command.Serve running) some = refl
session_copies (command.Load l workers) some = refl

-- an answer on a set that isn't loaded, from the four things that are known of it
pub if_told : {E : Type 0} (P : Answer → Type 0) (r : Result Answer E) (fault : LoadFault)
    → ((answer : Answer) → answer.saved ≡ None → ((contents : List (List ℕ)) → outcome_with answer contents ≡ load_outcome fault) → fault ≢ ReadFault → fault ≢ OutOfMemory → P answer)
    → IfOk r (λ answer. answer.saved ≡ None) → IfOk r (λ answer. (contents : List (List ℕ)) → outcome_with answer contents ≡ load_outcome fault)
    → IfOk r (λ answer. fault ≢ ReadFault) → IfOk r (λ answer. fault ≢ OutOfMemory) → IfOk r P
if_told P (Ok answer) fault all nothing says read memory = all answer nothing says read memory
if_told P (Err e) fault all nothing says read memory = tt

-- ---- a command

module _ (leaves : ℕ → List (Option Words) → List (Option (List ℕ)) → Type 0) (held : Option Images) (script : List ℕ) (outcome : Outcome) where
  -- a command without a script comes to what is due on the images
  pub plain_comes : (command : CommandLine) → reads_script command ≡ false → checks_set command ≡ false → OnImages (LoadedComes leaves command) held outcome → Comes leaves command held script outcome
  plain_comes (Labels m) plain other on = on
  plain_comes Nfit plain other on = on
  plain_comes command.List plain other on = on
  plain_comes (Init m power) plain other on = on
  plain_comes (Change c power) plain other on = on
  plain_comes (Info uuid) plain other on = on
  plain_comes (Check uuid repair) plain other on = on
  plain_comes CheckSet plain other on = absurd (let e = other in cc)
  plain_comes RepairSet plain other on = on
  plain_comes (Read uuid sector) plain other on = on
  plain_comes (Write uuid sector value) plain other on = on
  plain_comes (AskReplay uuid seed) plain other on = absurd (let e = plain in cc)
  plain_comes (Export uuid zeros) plain other on = on
  plain_comes (Rescue uuid listing) plain other on = on
  plain_comes (Import uuid) plain other on = absurd (let e = plain in cc)
  plain_comes (Serve running) plain other on = absurd (let e = plain in cc)
  plain_comes (Load l workers) plain other on = on

module _ (leaves : ℕ → List (Option Words) → List (Option (List ℕ)) → Type 0) (held : Option Images) (left : Option (List ℕ)) where
  abbrev pub IsDueFor : CommandLine → Answer → Type 0
  IsDueFor command answer = (outcome : Outcome) → ComesFrom held answer outcome → ComesTold leaves command held left outcome

  pub plain_due : {E : Type 0} (command : CommandLine) (r : Result Answer E) → reads_script command ≡ false → checks_set command ≡ false → IfOk r (IsTold (LoadedComes leaves command) held) → IfOk r (IsDueFor command)
  plain_due command (Ok answer) plain other told = λ outcome from script reads. plain_comes leaves held script outcome command plain other (told outcome from)
  plain_due command (Err e) plain other told = tt

  -- what is found on the whole set
  pub set_due : {E : Type 0} (r : Result Answer E) → IfOk r (λ answer. (outcome : Outcome) → ComesFrom held answer outcome → ForSome held (λ set. outcome ≡ set_check_outcome set)) → IfOk r (IsDueFor CheckSet)
  set_due (Ok answer) told = λ outcome from script reads. told outcome from
  set_due (Err e) told = tt

  -- a schedule was read
  pub read_due : {E : Type 0} (uuid : List ℕ) (seed : ℕ) (schedule : Schedule) (replay : Replay) (r : Result Answer E) → schedule ≡ record { lines = replay.lines; seed = seed }
      → ForSome left (λ text. script_in replay_reading text ≡ Ok replay) → IfOk r (IsTold (ReplayComes leaves uuid schedule) held) → IfOk r (IsDueFor (AskReplay uuid seed))
  read_due uuid seed schedule replay (Ok answer) is read told = λ outcome from script reads.
      let due : OnImages (ReplayComes leaves uuid (record { lines = replay.lines; seed = seed })) held outcome =
      subst (λ (s : Schedule). OnImages (ReplayComes leaves uuid s) held outcome) is (told outcome from) in
      subst (λ (s : Result Replay ScriptRefused). OnScript (λ (q : Replay). OnImages (ReplayComes leaves uuid (record { lines = q.lines; seed = seed })) held) s outcome)
      (sym (read script (reads refl))) due
  read_due uuid seed schedule replay (Err e) is read told = tt

  -- none was
  pub misread_due : {E : Type 0} (uuid : List ℕ) (seed : ℕ) (why : ScriptRefused) (r : Result Answer E) → ForSome left (λ text. script_in replay_reading text ≡ Err why)
      → IfOk r (λ answer. (contents : List (List ℕ)) → outcome_with answer contents ≡ script_outcome why) → IfOk r (λ answer. answer.saved ≡ None) → IfOk r (IsDueFor (AskReplay uuid seed))
  misread_due uuid seed why (Ok answer) refused says nothing = λ outcome from script reads.
      subst (λ (s : Result Replay ScriptRefused). OnScript (λ (q : Replay). OnImages (ReplayComes leaves uuid (record { lines = q.lines; seed = seed })) held) s outcome)
      (sym (refused script (reads refl))) (from_none held answer outcome (script_outcome why) nothing says from)
  misread_due uuid seed why (Err e) refused says nothing = tt

  -- bytes were read
  pub bytes_due : {E : Type 0} (uuid bytes : List ℕ) (r : Result Answer E) → ForSome left (λ text. bytes_in text ≡ Ok bytes) → IfOk r (IsTold (ImportComes uuid bytes) held) → IfOk r (IsDueFor (Import uuid))
  bytes_due uuid bytes (Ok answer) read told = λ outcome from script reads.
      subst (λ (s : Result (List ℕ) ScriptRefused). OnScript (λ (bs : List ℕ). OnImages (ImportComes uuid bs) held) s outcome) (sym (read script (reads refl))) (told outcome from)
  bytes_due uuid bytes (Err e) read told = tt

  -- none were
  pub misread_bytes_due : {E : Type 0} (uuid : List ℕ) (why : ScriptRefused) (r : Result Answer E) → ForSome left (λ text. bytes_in text ≡ Err why)
      → IfOk r (λ answer. (contents : List (List ℕ)) → outcome_with answer contents ≡ script_outcome why) → IfOk r (λ answer. answer.saved ≡ None) → IfOk r (IsDueFor (Import uuid))
  misread_bytes_due uuid why (Ok answer) refused says nothing = λ outcome from script reads.
      subst (λ (s : Result (List ℕ) ScriptRefused). OnScript (λ (bs : List ℕ). OnImages (ImportComes uuid bs) held) s outcome)
      (sym (refused script (reads refl))) (from_none held answer outcome (script_outcome why) nothing says from)
  misread_bytes_due uuid why (Err e) refused says nothing = tt

  -- a script of sessions was read
  pub sessions_due : {E : Type 0} (running : Running) (lines : Script) (r : Result Answer E) → ForSome left (λ text. script_in script_reading text ≡ Ok lines) → IfOk r (IsTold (ServeComes (leaves running.seed) lines) held) → IfOk r (IsDueFor (Serve running))
  sessions_due running lines (Ok answer) read told = λ outcome from script reads.
      subst (λ (s : Result Script ScriptRefused). OnScript (λ (q : Script). OnImages (ServeComes (leaves running.seed) q) held) s outcome) (sym (read script (reads refl))) (told outcome from)
  sessions_due running lines (Err e) read told = tt

  -- none was
  pub misread_sessions_due : {E : Type 0} (running : Running) (why : ScriptRefused) (r : Result Answer E) → ForSome left (λ text. script_in script_reading text ≡ Err why)
      → IfOk r (λ answer. (contents : List (List ℕ)) → outcome_with answer contents ≡ script_outcome why) → IfOk r (λ answer. answer.saved ≡ None) → IfOk r (IsDueFor (Serve running))
  misread_sessions_due running why (Ok answer) refused says nothing = λ outcome from script reads.
      subst (λ (s : Result Script ScriptRefused). OnScript (λ (q : Script). OnImages (ServeComes (leaves running.seed) q) held) s outcome)
      (sym (refused script (reads refl))) (from_none held answer outcome (script_outcome why) nothing says from)
  misread_sessions_due running why (Err e) refused says nothing = tt

-- ---- the words

module _ (leaves : ℕ → List (Option Words) → List (Option (List ℕ)) → Type 0) (words : List (List ℕ)) (held : Option Images) (left : Option (List ℕ)) (outcome : Outcome) where
  -- what a command comes to is what is due for its words
  pub command_due : (command : CommandLine) → command_of words ≡ Some command → ComesTold leaves command held left outcome → IsDue leaves words held left outcome
  command_due command said told = subst (λ (o : Option CommandLine). MatchOption o (outcome ≡ usage) (λ c. ComesTold leaves c held left outcome)) (sym said) told

  -- and so is what is said of words that aren't a command line
  pub usage_due : command_of words ≡ None → outcome ≡ usage → IsDue leaves words held left outcome
  usage_due none says = subst (λ (o : Option CommandLine). MatchOption o (outcome ≡ usage) (λ c. ComesTold leaves c held left outcome)) (sym none) says

-- a command that copies contents, or prints its text piece by piece, is one of the words
pub command_streams : (words : List (List ℕ)) (command : CommandLine) → command_of words ≡ Some command → IsTrue (streams command) → IsTrue (streams_by words)
command_streams words command said does = subst (λ (o : Option CommandLine). IsTrue (streams_found o)) (sym said) does

pub command_copies : (words : List (List ℕ)) (command : CommandLine) → command_of words ≡ Some command → IsTrue (copies command) → IsTrue (copies_by words)
command_copies words command said does = subst (λ (o : Option CommandLine). IsTrue (copies_found o)) (sym said) does

-- ---- what is only printed

-- the outcome of a report
pub reported_is : {E : Type 0} (r : Result Report E) (due outcome : Outcome) → IfOk r (λ report. outcome_of report ≡ due) → IsReported r outcome → outcome ≡ due
reported_is {E} r due outcome says (report, is, same) = same ∙ subst (λ (x : Result Report E). IfOk x (λ report. outcome_of report ≡ due)) is says

-- and that for a set that isn't loaded
pub reported_unloaded : {E : Type 0} (r : Result Report E) (fault : LoadFault) (outcome : Outcome) → IfOk r (λ report. outcome_of report ≡ load_outcome fault) → fault ≢ ReadFault
    → IfOk r (λ _. fault ≢ OutOfMemory) → IsReported r outcome → IsUnloaded fault outcome
reported_unloaded {E} r fault outcome says read memory (report, is, same) = (
  read,
  subst (λ (x : Result Report E). IfOk x (λ _. fault ≢ OutOfMemory)) is memory,
  reported_is r (load_outcome fault) outcome says (report, is, same),
)

-- a text that is printed piece by piece is what the command line comes to
pub streamed_due : (leaves : ℕ → List (Option Words) → List (Option (List ℕ)) → Type 0) (command : CommandLine) (what : Streamed) (held : Option Images) (left : Option (List ℕ)) (outcome : Outcome)
    → command ≡ line_of what → OnImages (Streams what) held outcome → ComesTold leaves command held left outcome
streamed_due leaves command (streamed.Export uuid zeros) held left outcome is due = λ script reads. subst (λ (c : CommandLine). Comes leaves c held script outcome) (sym is) due
streamed_due leaves command (streamed.Rescue uuid listing) held left outcome is due = λ script reads. subst (λ (c : CommandLine). Comes leaves c held script outcome) (sym is) due

-- ---- a set that isn't finished

-- if a set was to be saved, an outcome with a set was due
saved_due : (held : Option Images) (saved : Option Left) → IsSome saved → (set : Images) × AreSaved held saved (Some set)
saved_due held None some = absurd (let e = some in cc)
saved_due held (Some (Whole left)) some = (objects_saved [] (Whole left), (objects_saved [] (Whole left), refl, refl))
saved_due None (Some (Copied left)) some = (objects_with left [], (objects_with left [], (λ source is. absurd (let e = is in cc)), refl))
saved_due (Some source) (Some (Copied left)) some =
    let set : Images = objects_with left (contents_in source (length left.sizes)) in (
      set,
      (
        set,
        (λ source' is.
            let same : source ≡ source' = (let e = is in cc) in
            ap (λ (s : Images). objects_with left (contents_in s (length left.sizes))) same),
        refl,
      ),
    )
saved_due None (Some (Patched left patch)) some = (objects_with left [], (objects_with left [], (λ source is. absurd (let e = is in cc)), refl))
saved_due (Some source) (Some (Patched left patch)) some =
    let set : Images = objects_with left (contents_with patch (contents_in source (length left.sizes))) in (
      set,
      (
        set,
        (λ source' is.
            let same : source ≡ source' = (let e = is in cc) in
            ap (λ (s : Images). objects_with left (contents_with patch (contents_in s (length left.sizes)))) same),
        refl,
      ),
    )

pub some_due : (held : Option Images) (answer : Answer) → IsSome answer.saved → (outcome : Outcome) × ComesFrom held answer outcome × IsSome outcome.saved
some_due held answer some =
    let due = saved_due held answer.saved some in
    (record { ending = answer.report.ending; text = answer.report.text.items; saved = Some due.0 }, record { ends = refl; says = refl; saves = due.1 }, refl)
