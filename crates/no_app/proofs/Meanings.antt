-- What is loaded is what a text means, and it means one thing at most.
use Rattle.std.proofs.Common.{◌≡◌, ℕ, List, refl, sym, ap, subst, ◌∙◌, Result, Ok, Err, inl, inr}
use Rattle.no_ir.specs.declared.function.Module.{Module}
use Rattle.no_ir.specs.declared.function.Role.{Role}
use Rattle.no_ir.specs.declared.function.Role.TheVariants.{Source}
use Rattle.no_layout.specs.declared.extent.Extent.{Extent}
use Rattle.no_layout.specs.declared.layout.Layout.{Layout}
use Rattle.no_lex.specs.declared.fault.LexError.{LexError}
use Rattle.no_lex.specs.declared.fault.LexError.TheVariants as lexing
use Rattle.no_lex.specs.declared.fault.LexFault.{LexFault}
use Rattle.no_lex.specs.Tokens as tokens
use Rattle.no_read.specs.Knowing as reads
use Rattle.no_read.specs.declared.fault.ReadError.{ReadError}
use Rattle.no_read.specs.declared.fault.ReadError.TheVariants as reading
use Rattle.no_lex.specs.declared.token.Token.{Token}
use Rattle.no_lex.specs.Tokens.{Lexes}
use Rattle.no_read.specs.declared.fault.ReadFault.{ReadFault}
use Rattle.no_read.specs.Reading.{Reads}
use Rattle.no_semantics.specs.Accepted.{Accepted}
use Rattle.no_verify.specs.Verdict.{Accepts, Answers, Faulty, IsAccepted, IsVerdict, Unstated, Verdict}
use Rattle.no_verify.specs.declared.fault.VerifyError.{VerifyError}
use Rattle.no_verify.specs.declared.fault.VerifyError.TheVariants as verifying
use Rattle.no_verify.proofs.Unique.{verdict_once}
use Rattle.no_app.specs.Programs.{Loads, Means, MeansModule, MeansRead, MeansTokens, MeansVerdict, text_limit, unaccepted, unlexed, unread}
use Rattle.no_app.specs.declared.loading.Refused.{Refused}
use Rattle.no_app.specs.declared.loading.Refused.TheVariants as refused
use Rattle.no_app.specs.declared.outcome.ModuleFault.{ModuleFault}
use Rattle.no_app.specs.declared.outcome.ModuleFault.TheVariants as modules

abbrev pub Answer : Type 0
Answer = Result Accepted ModuleFault

-- a fact of what was loaded follows from another
pub loads_so : (P Q : Answer → Type 0) → ((x : Answer) → P x → Q x) → (r : Result Accepted Refused) → Loads r P → Loads r Q
loads_so P Q so (Ok a) p = so (Ok a) p
loads_so P Q so (Err (refused.Bad fault)) p = so (Err fault) p
loads_so P Q so (Err refused.NoMemory) p = tt

-- ---- the verdict

told_once : (v : Verdict) (x y : Answer) → MeansVerdict v x → MeansVerdict v y → x ≡ y
told_once (Accepts a) x y p q = p ∙ sym q
told_once (Unstated fault) x y p q = p ∙ sym q
told_once (Faulty fault) x y p q = p ∙ sym q

-- a module means one thing
means_once : (m : Module) (v : Verdict) (x y : Answer) → IsVerdict m Source v → MeansVerdict v x → MeansModule m y → x ≡ y
means_once m v x y is p other =
    told_once other.verdict x y (subst (λ (w : Verdict). MeansVerdict w x) (verdict_once m Source v other.verdict is other.judged_so) p) other.means

pub accepted_loads : (m : Module) (a : Accepted) → IsAccepted m Source a → Loads (Ok a) (MeansModule m)
accepted_loads m a is = record { verdict = Accepts a; judged_so = is; means = refl }

pub accepted_only : (m : Module) (a : Accepted) → IsAccepted m Source a → (answer : Answer) → MeansModule m answer → Loads (Ok a) (λ x. x ≡ answer)
accepted_only m a is answer means = means_once m (Accepts a) (Ok a) answer is refl means

pub unaccepted_loads : (m : Module) (e : VerifyError) → Answers (Err e) (IsVerdict m Source) → Loads (Err (unaccepted e)) (MeansModule m)
unaccepted_loads m verifying.NoMemory is = tt
unaccepted_loads m (verifying.Layout fault) is = record { verdict = Unstated fault; judged_so = is; means = refl }
unaccepted_loads m (verifying.Fault fault) is = record { verdict = Faulty fault; judged_so = is; means = refl }

pub unaccepted_only : (m : Module) (e : VerifyError) → Answers (Err e) (IsVerdict m Source) → (answer : Answer) → MeansModule m answer → Loads (Err (unaccepted e)) (λ x. x ≡ answer)
unaccepted_only m verifying.NoMemory is answer means = tt
unaccepted_only m (verifying.Layout fault) is answer means = means_once m (Unstated fault) (Err (modules.Layout fault)) answer is refl means
unaccepted_only m (verifying.Fault fault) is answer means = means_once m (Faulty fault) (Err (modules.Verify fault)) answer is refl means

-- ---- the tokens read to a module, and this was judged

pub read_loads : (text : List ℕ) (tokens : List Token) (m : Module) (r : Result Accepted Refused) → Reads text Source tokens (Ok m)
    → Loads r (MeansModule m) → Loads r (MeansTokens text (Ok tokens))
read_loads text tokens m r reads = loads_so (MeansModule m) (MeansTokens text (Ok tokens)) (λ x means. (Ok m, reads, means)) r

means_read : (found other : Result Module ReadFault) (answer : Answer) → found ≡ other → MeansRead other answer → MeansRead found answer
means_read found other answer same = subst (λ (f : Result Module ReadFault). MeansRead f answer) (sym same)

pub read_only : (text : List ℕ) (tokens : List Token) (m : Module) (r : Result Accepted Refused)
    → ((answer : Result Module ReadFault) → Reads text Source tokens answer → Ok m ≡ answer)
    → ((answer : Answer) → MeansModule m answer → Loads r (λ x. x ≡ answer)) → (answer : Answer) → MeansTokens text (Ok tokens) answer → Loads r (λ x. x ≡ answer)
read_only text tokens m r only loads answer means = loads answer (means_read (Ok m) means.0 answer (only means.0 means.1) means.2)

-- the text parts into tokens, or has a fault
pub text_loads : (text : List ℕ) (lexed : Result (List Token) LexFault) (r : Result Accepted Refused) → Lexes text_limit text lexed → Loads r (MeansTokens text lexed) → Loads r (Means text)
text_loads text lexed r lexes = loads_so (MeansTokens text lexed) (Means text) (λ x m. record { lexed = lexed; lexes = lexes; means = m }) r

pub text_means : (text : List ℕ) (lexed : Result (List Token) LexFault) (answer : Answer) → ((other : Result (List Token) LexFault) → Lexes text_limit text other → lexed ≡ other)
    → Means text answer → MeansTokens text lexed answer
text_means text lexed answer only m = subst (λ (l : Result (List Token) LexFault). MeansTokens text l answer) (sym (only m.lexed m.lexes)) m.means

-- ---- errors

pub unread_loads : (text : List ℕ) (tokens : List Token) (e : ReadError) → reads.Answers {A = Module} (Err e) (Reads text Source tokens) → Loads (Err (unread e)) (MeansTokens text (Ok tokens))
unread_loads text tokens reading.NoMemory r = tt
unread_loads text tokens (reading.Fault fault) r = (Err fault, r, refl)

pub unread_only : (text : List ℕ) (tokens : List Token) (e : ReadError)
    → ((answer : Result Module ReadFault) → Reads text Source tokens answer → reads.Answers {A = Module} (Err e) (λ found. found ≡ answer))
    → (answer : Answer) → MeansTokens text (Ok tokens) answer → Loads (Err (unread e)) (λ x. x ≡ answer)
unread_only text tokens reading.NoMemory only answer means = tt
unread_only text tokens (reading.Fault fault) only answer means = sym (means_read (Err fault) means.0 answer (only means.0 means.1) means.2)

pub unlexed_loads : (text : List ℕ) (e : LexError) → tokens.Answers (Err e) (Lexes text_limit text) → Loads (Err (unlexed e)) (Means text)
unlexed_loads text lexing.NoMemory l = tt
unlexed_loads text (lexing.Fault fault) l = record { lexed = Err fault; lexes = l; means = refl }

pub unlexed_only : (text : List ℕ) (e : LexError)
    → ((answer : Result (List Token) LexFault) → Lexes text_limit text answer → tokens.Answers (Err e) (λ found. found ≡ answer))
    → (answer : Answer) → Means text answer → Loads (Err (unlexed e)) (λ x. x ≡ answer)
unlexed_only text lexing.NoMemory only answer means = tt
unlexed_only text (lexing.Fault fault) only answer means = sym (text_means text (Err fault) answer only means)

-- ---- what a text means as a program is accepted

abbrev program_or : Accepted → Answer → Accepted
program_or other (Ok a) = a
program_or other (Err fault) = other

accepted_verdict : (m : Module) (v : Verdict) (p : Accepted) → IsVerdict m Source v → MeansVerdict v (Ok p) → IsAccepted m Source p
accepted_verdict m (Accepts a) p is means = subst (IsAccepted m Source) (ap (program_or a) (sym means)) is
accepted_verdict m (Unstated fault) p is means = absurd cc
accepted_verdict m (Faulty fault) p is means = absurd cc

accepted_read : (m : Result Module ReadFault) (p : Accepted) → MeansRead m (Ok p) → (x : Module) × IsAccepted x Source p
accepted_read (Ok m) p means = (m, accepted_verdict m means.verdict p means.judged_so means.means)
accepted_read (Err fault) p means = absurd cc

accepted_tokens : (text : List ℕ) (lexed : Result (List Token) LexFault) (p : Accepted) → MeansTokens text lexed (Ok p) → (x : Module) × IsAccepted x Source p
accepted_tokens text (Ok tokens) p means = accepted_read means.0 p means.2
accepted_tokens text (Err fault) p means = absurd cc

pub means_accepted : (text : List ℕ) (p : Accepted) → Means text (Ok p) → (m : Module) × IsAccepted m Source p
means_accepted text p means = accepted_tokens text means.lexed p means.means
