-- What the answer to a call of an external says, over each whole memory that agrees with the pages held.
use Rattle.std.specs.Prelude.{◌≡◌, ℕ, Bool, true, false, List, [], ◌++◌}
use Rattle.no_module.specs.declared.external.External.{External}
use Rattle.no_module.specs.declared.external.External.TheVariants as external
use Rattle.no_layout.specs.declared.memory.Regions.{Regions}
use Rattle.no_layout.specs.Memory.{Agrees}
use Rattle.no_heap.specs.declared.block.Block.{Block}
use Rattle.no_semantics.specs.Spans.{Span, AreHeld, IsLowestAbsent}
use Rattle.no_semantics.specs.Externals.{World, Effect, Gives, Does, Exits, Traps, Over, Stuck}
use Rattle.no_lib.specs.declared.env.Env.{Env}
use Rattle.no_lib.specs.declared.answer.LibAnswer.{LibAnswer}
use Rattle.no_lib.specs.declared.answer.LibAnswer.TheVariants as answer

-- what an external sees and may change: the memory's regions, its pages, those with bytes of their own, its bytes; the live blocks; input and output
pub record Seen : Type 0 where
  pub regions : Regions
  pub held : ℕ → Bool
  pub own : ℕ → Bool
  pub byte : ℕ → ℕ
  pub heap : List Block
  pub env : Env

-- what an external sees, from its parts
abbrev pub seen : Regions → (ℕ → Bool) → (ℕ → Bool) → (ℕ → ℕ) → List Block → Env → Seen
seen r held own byte heap env = record { regions = r; held = held; own = own; byte = byte; heap = heap; env = env }

-- a world of the definitions that may be this one: absent pages have any bytes, and more input may come
pub record IsWorld (s : Seen) (more : List ℕ) (w : World) : Type 0 where
  pub bytes : Agrees s.held s.byte w.byte
  pub blocks : w.heap ≡ s.heap
  pub rest : w.input ≡ s.env.input ++ more

-- all bytes whose pages have to be there
abbrev pub needed_by : Effect → List Span
needed_by e = e.sought ++ (e.reads ++ e.writes)

-- what a call that is done leaves: all pages were there, and the world and the output are those of the definition
pub record IsLeft (e : Effect) (old new : Seen) (more : List ℕ) : Type 0 where
  pub pages : AreHeld old.held (needed_by e)
  pub world : IsWorld new more e.world
  pub output : new.env.output.items ≡ old.env.output.items ++ e.output

-- what an answer says of the effect in the definitions
abbrev pub Answers : LibAnswer → Effect → Seen → Seen → List ℕ → Type 0
Answers (answer.Value v cost) e old new more = (e.outcome ≡ Gives v cost) × IsLeft e old new more
Answers (answer.Nothing cost) e old new more = (e.outcome ≡ Does cost) × IsLeft e old new more
Answers (answer.Exited status) e old new more = e.outcome ≡ Exits status
Answers (answer.Trapped trap) e old new more = (e.outcome ≡ Traps trap) × AreHeld old.held e.sought
Answers answer.Over e old new more = (e.outcome ≡ Over) × AreHeld old.held e.sought
Answers answer.Stuck e old new more = e.outcome ≡ Stuck
Answers (answer.WantPage page) e old new more = IsLowestAbsent old.held (needed_by e) page
Answers answer.WantInput e old new more = Unit {0}
Answers answer.NoMemory e old new more = Unit {0}

-- nothing has changed
pub record AreSame (old new : Seen) : Type 0 where
  pub bytes : new.byte ≡ old.byte
  pub blocks : new.heap ≡ old.heap
  pub rest : new.env.input ≡ old.env.input
  pub output : new.env.output.items ≡ old.env.output.items

-- nothing changes but where a call is done
abbrev pub IsSame : LibAnswer → Seen → Seen → Type 0
IsSame (answer.Value v cost) old new = Unit {0}
IsSame (answer.Nothing cost) old new = Unit {0}
IsSame _ old new = AreSame old new

-- the externals that may take memory: those that write output or memory
abbrev pub TakesMemory : External → Type 0
TakesMemory external.PutChar = Unit {0}
TakesMemory external.Puts = Unit {0}
TakesMemory external.Calloc = Unit {0}
TakesMemory external.Move = Unit {0}
TakesMemory external.Set = Unit {0}
TakesMemory _ = ⊥

-- a call was answered as the definition of its effect says
pub record Means (which : External) (effect : World → Effect) (a : LibAnswer) (old new : Seen) : Type 0 where
  pub map : new.regions ≡ old.regions
  pub pages : new.held ≡ old.held
  pub ended : new.env.ended ≡ old.env.ended
  pub kept : (p : ℕ) → old.own p ≡ true → new.own p ≡ true
  pub same : IsSame a old new
  pub told : (more : List ℕ) (w : World) → (old.env.ended ≡ true → more ≡ []) → IsWorld old more w → Answers a (effect w) old new more
  pub enough : a ≡ answer.NoMemory → TakesMemory which
  pub asks : a ≡ answer.WantInput → (which ≡ external.GetChar) × (old.env.input ≡ []) × (old.env.ended ≡ false)
