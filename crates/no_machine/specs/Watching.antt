-- What is told of a machine at an instruction: where it stands, and what the instruction touches.
use Rattle.std.specs.Prelude.{◌≡◌, ℕ, List, [], ◌++◌, length, Option, Some, None}
use Rattle.no_heap.specs.declared.block.Block.{Block}
use Rattle.no_layout.specs.declared.memory.Regions.{Regions}
use Rattle.no_module.specs.declared.external.External.{External}
use Rattle.no_module.specs.declared.external.External.TheVariants as external
use Rattle.no_semantics.specs.Externals.{Effect, Outcome, World, do_external}
use Rattle.no_semantics.specs.Externals as outcome
use Rattle.no_semantics.specs.Rows.{Row, Calling, Goes, needed}
use Rattle.no_semantics.specs.Spans.{Span, span_of}
use Rattle.no_semantics.specs.States.{State}
use Rattle.no_machine.specs.declared.watch.Place.{Place}
use Rattle.no_machine.specs.declared.watch.Touch.{Touch}
use Rattle.no_machine.specs.declared.watch.Touch.TheVariants as touch

-- the function of a state's frame, and how many callers wait
pub record IsPlaceOf (place : Place) (s : State) : Type 0 where
  pub function : place.function ≡ s.frame.function
  pub callers : place.callers ≡ length s.callers

-- the bytes that an instruction touches which writes so many bytes to the output
abbrev pub spans_of : Touch → ℕ → List Span
spans_of touch.Nothing n = []
spans_of (touch.Bytes at len) n = span_of at len
spans_of (touch.Pair from to len) n = span_of from len ++ span_of to len
spans_of (touch.Text at) n = span_of at n

-- this is what a row touches if the run goes on behind it
abbrev pub IsTouchOf : Touch → Row → Type 0
IsTouchOf t row = (bytes : List ℕ) (call : Option Calling) (after : State) → row.next ≡ Goes bytes call after → needed row ≡ spans_of t (length bytes)

-- the run goes on behind an external that gives a value, or does something
abbrev pub GoesOn : Outcome → Type 0
GoesOn (outcome.Gives v cost) = Unit {0}
GoesOn (outcome.Does cost) = Unit {0}
GoesOn _ = ⊥

-- all bytes of which an external needs the pages
abbrev pub needs_of : Effect → List Span
needs_of e = e.sought ++ (e.reads ++ e.writes)

-- this is what an external touches if the run goes on behind it
abbrev pub IsEffectTouch : Touch → Effect → Type 0
IsEffectTouch t e = GoesOn e.outcome → needs_of e ≡ spans_of t (length e.output)

-- this is what a call with these arguments touches: one of a defined function touches nothing, and nor do the two of a server's part
abbrev pub IsCallTouch : Touch → Option External → List Block → List ℕ → Type 0
IsCallTouch t None heap ns = t ≡ touch.Nothing
IsCallTouch t (Some external.Alloca) heap ns = t ≡ touch.Nothing
IsCallTouch t (Some external.Map) heap ns = t ≡ touch.Nothing
IsCallTouch t (Some which) heap ns = (r : Regions) (w : World) → w.heap ≡ heap → IsEffectTouch t (do_external r which ns w)
