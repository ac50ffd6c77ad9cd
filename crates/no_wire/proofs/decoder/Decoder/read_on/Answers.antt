use Rattle.std.proofs.Common.{◌≡◌, ◌+◌, ◌<◌, ◌++◌, [], None, length, subst, sym, ap, ◌∙◌, List, ℕ, arith}
use Rattle.no_wire.specs.Streams.{Decoding}
use Rattle.no_wire.specs.Fronts.{IsOpen}
use Rattle.no_wire.proofs.Streaming.{fault_fed, frames_fed, kept_as, ready_open}
use Rattle.no_wire.proofs.decoder.Decoder.read_on.Goals.{in-Err, in-Ok}
use Rattle.no_wire.proofs.decoder.Decoder.read_on.Goals as goal

pub returns-in-Open : goal.returns-in-Open
returns-in-Open c =
    let rest = ap (λ (d : Decoding). d.rest) c.self.view_is in
    let fault = ap (λ (d : Decoding). d.fault) c.self.view_is in
    let a = rw (c.in-Open.is, rest) at c.in-Ok-absorb.ensures.ok in
    frames_fed c.args.self.now c.args.piece.now c.absorb.new.rest.items c.in-Ok-absorb.field-0.out c.self.inside.fault c.requires fault a.1 c.in-Ok-absorb.ensures.bytes a.2 a.0

pub returns-in-Broken : goal.returns-in-Broken
returns-in-Broken c =
    let rest = ap (λ (d : Decoding). d.rest) c.self.view_is in
    let a = rw (c.in-Broken.is, rest) at c.in-Ok-absorb.ensures.ok in
    fault_fed c.args.self.now c.args.piece.now c.absorb.new.rest.items c.in-Ok-absorb.field-0.out c.in-Broken.fault c.in-Ok-absorb.ensures.bytes a

pub returns-after-keep : goal.returns-after-keep
returns-after-keep c =
    let rest = ap (λ (d : Decoding). d.rest) c.self.view_is in
    let fault = ap (λ (d : Decoding). d.fault) c.self.view_is in
    elim c.match-keep.branch [
      | in-Err w ↦
          let same : c.keep.new.rest.items ≡ c.self.inside.rest.items = w.in-Err.ensures.err in
          rw w.result-is (ap (λ (r : List ℕ). kept_as r c.self.inside.fault) same ∙ c.self.view_is)
      | in-Ok w ↦
          let grown : c.keep.new.rest.items ≡ c.self.inside.rest.items ++ c.args.piece.now = w.in-Ok.ensures.ok in
          let none : c.self.inside.fault ≡ None = fault ∙ c.requires in
          let ready = ready_open c.self.inside.fault c.self.inside.until c.self.inside.rest.items none c.self.invariant in
          let room : length c.self.inside.rest.items + length c.args.piece.now < c.self.inside.until =
          omega (arith, c.if-piece-self.true, c.len-then-len-self.ensures, c.self.inside.rest.ok, c.if-len-self.true, c.len.ensures) in
          let open' : IsOpen c.keep.new.rest.items = subst IsOpen (sym grown) (ready c.args.piece.now room) in
          let stream : c.keep.new.rest.items ≡ c.args.self.now.rest ++ c.args.piece.now = grown ∙ ap (λ (r : List ℕ). r ++ c.args.piece.now) rest in
          rw (w.result-is, w.new-none.ensures) (frames_fed c.args.self.now c.args.piece.now c.keep.new.rest.items [] c.self.inside.fault c.requires fault tt c.keep.ensures.bytes open' stream)
    ]
