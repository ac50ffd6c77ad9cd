-- Which definitions refer to which, by their places in the text.
use Rattle.std.specs.Prelude.{◌≡◌, ℕ, suc, zero, ◌+◌, ◌<◌, Bool, true, false, ◌&&◌, not, List, [], ◌∷◌, ◌++◌, nat_lt, nat_eq, map, length, get_or, slice_get, set, Option, Some, None, if◌then◌else◌}
use Rattle.std.specs.List.{list_any}
use Rattle.no_ir.specs.declared.types.Ty.{Ty}
use Rattle.no_ir.specs.declared.types.Ty.TheOpen.{Ty-F}
use Rattle.no_ir.specs.declared.types.Ty.TheFolds.{fold-Ty}
use Rattle.no_read_types.specs.declared.definition.Definition.{Definition}

-- ---- references

-- lists as one list
abbrev pub joined : List (List ℕ) → List ℕ
joined [] = []
joined (xs ∷ all) = xs ++ joined all

-- what one form of a type refers to, where it is known what the types inside it refer to
abbrev pub reference_step : Ty-F (List ℕ) → List ℕ
reference_step Ty-F.Void = []
reference_step (Ty-F.Int width) = []
reference_step Ty-F.Ptr = []
reference_step (Ty-F.Array count element) = element
reference_step (Ty-F.Struct packed fields) = joined fields
reference_step (Ty-F.Named n) = n ∷ []

-- the named types that a type refers to
abbrev pub references : Ty → List ℕ
references = fold-Ty (List ℕ) reference_step

-- the references of each definition
abbrev pub graph_of : List Definition → List (List ℕ)
graph_of defined = map (λ d. references d.ty) defined

-- ---- graphs

-- the references that are there, or none
abbrev pub some_references : Option (List ℕ) → List ℕ
some_references None = []
some_references (Some all) = all

-- the references of a definition; past the end there are none
abbrev pub references_at : List (List ℕ) → ℕ → List ℕ
references_at graph n = some_references (slice_get graph n)

-- whether one refers to the other
abbrev pub refers : List (List ℕ) → ℕ → ℕ → Bool
refers graph a b = nat_lt b (length graph) && list_any (nat_eq b) (references_at graph a)

-- a path of references from the one over these to the other
abbrev pub IsPath : List (List ℕ) → ℕ → List ℕ → ℕ → Type 0
IsPath graph a [] b = refers graph a b ≡ true
IsPath graph a (c ∷ via) b = (refers graph a c ≡ true) × IsPath graph c via b

-- there is a path of references from the one to the other
abbrev pub Reaches : List (List ℕ) → ℕ → ℕ → Type 0
Reaches graph a b = (via : List ℕ) × IsPath graph a via b

-- on a circle: it reaches itself
abbrev pub OnCircle : List (List ℕ) → ℕ → Type 0
OnCircle graph n = Reaches graph n n

-- the first in the text's order that lies on a circle
pub record IsFirstOnCircle (graph : List (List ℕ)) (n : ℕ) : Type 0 where
  pub on_circle : OnCircle graph n
  pub first : (m : ℕ) → m < n → OnCircle graph m → ⊥

-- ---- numbering

-- whether a definition is still without a number, where these have theirs
abbrev pub is_open : List (List ℕ) → List ℕ → ℕ → Bool
is_open graph order n = nat_lt n (length graph) && not (list_any (nat_eq n) order)

-- the first from this place on that is open and refers to none that is open
abbrev pub next_from : (ℕ → Bool) → ℕ → List (List ℕ) → Option ℕ
next_from waits n [] = None
next_from waits n (all ∷ graph) = if waits n && not (list_any waits all) then Some n else next_from waits (suc n) graph

-- the order with one more, where one is ready, and what follows it
abbrev pub go_on : (List ℕ → List ℕ) → List ℕ → Option ℕ → List ℕ
go_on more order None = order
go_on more order (Some n) = more (order ++ n ∷ [])

-- the order of numbers, from those that are numbered already on, in at most so many steps
unfoldable pub order_from : List (List ℕ) → ℕ → List ℕ → List ℕ
order_from graph zero order = order
order_from graph (suc steps) order = go_on (order_from graph steps) order (next_from (is_open graph order) 0 graph)

-- the order of numbers: again and again the first in the text's order whose references all have numbers
unfoldable pub order_of : List (List ℕ) → List ℕ
order_of graph = order_from graph (length graph) []

-- the place of a definition in the rest of an order, which begins at place k; it keeps its own where it has none
abbrev pub number_from : ℕ → List ℕ → ℕ → ℕ
number_from k [] n = n
number_from k (m ∷ order) n = if nat_eq n m then k else number_from (suc k) order n

-- the number of a definition, which is its place in the order; it keeps its own where it has none
abbrev pub number_of : List ℕ → ℕ → ℕ
number_of order n = number_from 0 order n

-- ---- flags, one for each definition

-- whether there is such a flag and it is set
abbrev pub is_set : List Bool → ℕ → Bool
is_set flags n = get_or flags n false

-- how many flags are set
abbrev pub count_set : List Bool → ℕ
count_set [] = 0
count_set (true ∷ flags) = suc (count_set flags)
count_set (false ∷ flags) = count_set flags

-- how many flags are not set
abbrev pub count_clear : List Bool → ℕ
count_clear [] = 0
count_clear (true ∷ flags) = count_clear flags
count_clear (false ∷ flags) = suc (count_clear flags)

-- whether there is such a flag and it isn't set
abbrev pub is_clear : List Bool → ℕ → Bool
is_clear flags n = not (get_or flags n true)

-- the flags once all of these are set
abbrev pub marked : List Bool → List ℕ → List Bool
marked flags [] = flags
marked flags (n ∷ ns) = if is_clear flags n then marked (set flags n true) ns else marked flags ns

-- those of these whose flags are there and weren't set, each once
abbrev pub fresh : List Bool → List ℕ → List ℕ
fresh flags [] = []
fresh flags (n ∷ ns) = if is_clear flags n then n ∷ fresh (set flags n true) ns else fresh flags ns

-- a test's answer
abbrev pub Tells : Bool → Type 0 → Type 0
Tells true P = P
Tells false P = P → ⊥

-- what is kept while numbers are given: a place's number, and which places wait for one
pub record IsNumbering (graph : List (List ℕ)) (order numbers : List ℕ) (waits : List Bool) : Type 0 where
  pub long : length waits ≡ length graph
  pub as_long : length numbers ≡ length graph
  pub waiting : (n : ℕ) → is_set waits n ≡ is_open graph order n
  pub numbered : (n : ℕ) → get_or numbers n n ≡ number_of order n
  pub count : count_set waits + length order ≡ length graph

-- each number is its own place
abbrev pub AreSame : List ℕ → Type 0
AreSame numbers = (n : ℕ) → get_or numbers n n ≡ n

-- what is kept while a search goes on from a start: which were seen, and which of them are still to do
pub record IsSearch (graph : List (List ℕ)) (start : ℕ) (seen : List Bool) (todo : List ℕ) : Type 0 where
  pub long : length seen ≡ length graph
  pub sound : (n : ℕ) → is_set seen n ≡ true → Reaches graph start n
  pub waits : (n : ℕ) → list_any (nat_eq n) todo ≡ true → is_set seen n ≡ true
  pub first : (n : ℕ) → refers graph start n ≡ true → is_set seen n ≡ true
  pub closed : (a b : ℕ) → is_set seen a ≡ true → list_any (nat_eq a) todo ≡ false → refers graph a b ≡ true → is_set seen b ≡ true

-- what is kept while a walk goes on through what waits: each that was visited reaches the one at hand
pub record IsWalk (graph : List (List ℕ)) (waits visited : List Bool) (n : ℕ) : Type 0 where
  pub here : is_set waits n ≡ true
  pub long : length visited ≡ length graph
  pub behind : (m : ℕ) → is_set visited m ≡ true → Reaches graph m n
