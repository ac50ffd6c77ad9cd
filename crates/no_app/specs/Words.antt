-- The words of the command line: which lists of words ask for a job.
use Rattle.std.specs.Prelude.{◌≡◌, ℕ, Bool, true, false, nat_le, if◌then◌else◌, List, [], ◌∷◌, length, take, drop, Option, Some, None, unwrap_or, codes, bytes_eq}
use Rattle.no_read_rules.specs.Numbers.{decimal}

infixl 10 ◌>>=◌
-- a step that may refuse, and then the next
abbrev pub ◌>>=◌ : {A B : Type 0} → Option A → (A → Option B) → Option B
(Some x) >>= f = f x
None >>= f = None

-- the answer, seen by view, is what the definition reads
abbrev pub Finds : {X Y : Type 0} → (X → Y) → Option X → Option Y → Type 0
Finds view (Some x) read = read ≡ Some (view x)
Finds view None read = read ≡ None

-- a file, and a budget of instructions
pub record Asked : Type 0 where
  pub file : List ℕ
  pub steps : ℕ

-- a word begins with a prefix
abbrev pub begins : List ℕ → List ℕ → Bool
begins prefix word = bytes_eq (take (length prefix) word) prefix

-- the number that digits spell, one at least, where it is at most so much
abbrev pub number_of : ℕ → List ℕ → Option ℕ
number_of most [] = None
number_of most (c ∷ cs) = decimal most (c ∷ cs)

-- a number of 1 to 20 digits, at most 2 ^ 32
abbrev pub budget_of : List ℕ → Option ℕ
budget_of word = if nat_le (length word) 20 then number_of 4294967296 word else None

-- the budget of instructions where none is stated
abbrev pub default_budget : ℕ
default_budget = 1000000000

-- the file has to be there
abbrev pub finished : Bool → Option (List ℕ) → Option ℕ → Option Asked
finished false (Some file) steps = Some (record { file = file; steps = unwrap_or steps default_budget })
finished _ _ steps = None

-- the file may come once
abbrev pub with_file : List ℕ → Option (List ℕ) → Option (List ℕ)
with_file word None = Some word
with_file word (Some file) = None

-- the budget may come once
abbrev pub with_budget : List ℕ → Option ℕ → Option ℕ
with_budget word None = budget_of word
with_budget word (Some n) = None

-- what a word changes of the state: whether the option's value comes next, the file and the budget so far
pub record Heard : Type 0 where
  pub waiting : Bool
  pub file : Option (List ℕ)
  pub steps : Option ℕ

-- a value in a word of its own
abbrev pub hear_value : List ℕ → Option (List ℕ) → Option ℕ → Option Heard
hear_value word file steps =
    if begins (codes "-") word then None
    else with_budget word steps >>= (λ n. Some (record { waiting = false; file = file; steps = Some n }))

-- the option `--steps`, whose value is the next word or stands behind a `=`
abbrev pub hear_option : List ℕ → Option (List ℕ) → Option ℕ → Option Heard
hear_option word file steps =
    if bytes_eq word (codes "--steps") then Some (record { waiting = true; file = file; steps = steps })
    else (if begins (codes "--steps=") word
    then with_budget (drop 8 word) steps >>= (λ n. Some (record { waiting = false; file = file; steps = Some n }))
    else None)

-- a word that begins with `--` is an option, and another that begins with `-` is refused
abbrev pub hear_word : List ℕ → Option (List ℕ) → Option ℕ → Option Heard
hear_word word file steps =
    if begins (codes "--") word then hear_option word file steps
    else (if begins (codes "-") word then None
    else with_file word file >>= (λ name. Some (record { waiting = false; file = Some name; steps = steps })))

-- the next word: an option's value where that is waited for, and else a word by itself
abbrev pub hear : Bool → List ℕ → Option (List ℕ) → Option ℕ → Option Heard
hear true word file steps = hear_value word file steps
hear false word file steps = hear_word word file steps

-- the words after the command, in any order
abbrev pub scanned : List (List ℕ) → Bool → Option (List ℕ) → Option ℕ → Option Asked
scanned [] waiting file steps = finished waiting file steps
scanned (word ∷ more) waiting file steps = hear waiting word file steps >>= (λ h. scanned more h.waiting h.file h.steps)

-- the words of the command `local`
abbrev pub asked_of : List (List ℕ) → Option Asked
asked_of [] = None
asked_of (word ∷ more) = if bytes_eq word (codes "local") then scanned more false None None else None
