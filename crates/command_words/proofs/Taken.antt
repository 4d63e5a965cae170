-- The result of clap, as the values in the words.
use Rattle.std.proofs.Common.{◌≡◌, ◌≢◌, List, [], ◌∷◌, Some, None, true, refl, subst, inl, inr}
use Rattle.clap.specs.Words.{App, HasKind, HasMatchesOf, IsAmong, Kinds, Row, Text, fault_of, found_of, is_simple_and_free, kind_of, matches_of, rows_of}
use Rattle.clap.specs.declared.error.Error.{Error}
use Rattle.clap.specs.declared.error.kind.ErrorKind.{ErrorKind}
use Rattle.clap.specs.declared.error.kind.ErrorKind.TheVariants as kind
use Rattle.clap.specs.declared.parser.matches.ArgMatches.{ArgMatches}
use Rattle.command_words.specs.App.{Described, app_for}
use Rattle.command_words.specs.Parsed.{parsed, rows_unless}
use Rattle.command_words.proofs.Simple.{simple_app, free_app}

pub words_taken : (arguments : List Described) (words : List Text) (app : App) (m : ArgMatches) → app ≡ app_for arguments
    → (is_simple_and_free app ≡ true → fault_of app words ≡ []) → HasMatchesOf app words m → parsed arguments words ≡ Some (rows_of (found_of m))
unfolding parsed
words_taken arguments words app m same faultless matched =
    let none : fault_of (app_for arguments) words ≡ [] =
    subst (λ (x : App). is_simple_and_free x ≡ true → fault_of x words ≡ []) same faultless (free_app arguments) in
    let those : rows_of (found_of m) ≡ matches_of (app_for arguments) words =
    (subst (λ (x : App). HasMatchesOf x words m) same matched (simple_app arguments)).0 in
    rw (none, those) refl

some_fault : (kinds : Kinds) (k : ErrorKind) (rows : List Row) → IsAmong k kinds → rows_unless kinds rows ≡ None
some_fault [] k rows among = absurd among
some_fault (x ∷ kinds) k rows among = refl

faulty : (kinds : Kinds) (error : Error) (rows : List Row) → HasKind kinds error → kind_of error ≢ kind.OutOfMemory → rows_unless kinds rows ≡ None
faulty kinds error rows (inl memory) other = absurd (other memory)
faulty kinds error rows (inr among) other = some_fault kinds (kind_of error) rows among

pub words_refused : (arguments : List Described) (words : List Text) (app : App) (error : Error) → app ≡ app_for arguments
    → (is_simple_and_free app ≡ true → HasKind (fault_of app words) error) → kind_of error ≢ kind.OutOfMemory → parsed arguments words ≡ None
unfolding parsed
words_refused arguments words app error same fails other =
    faulty (fault_of (app_for arguments) words) error (matches_of (app_for arguments) words)
    (subst (λ (x : App). is_simple_and_free x ≡ true → HasKind (fault_of x words) error) same fails (free_app arguments)) other
