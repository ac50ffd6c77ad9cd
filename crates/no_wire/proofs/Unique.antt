-- A stream is read in one way alone.
use Rattle.std.proofs.Common.{◌≡◌, ℕ, List, [], ◌∷◌, ◌++◌, length, refl, sym, ap, ◌∙◌, arith, append_assoc, length-append}
use Rattle.std.proofs.lemmas.List.{append-nil}
use Rattle.no_wire.specs.declared.msg.Msg.{Msg}
use Rattle.no_wire.specs.Messages.{AreMessages, IsMessage, frame}
use Rattle.no_wire.specs.Streams.{IsPartial, stream_of}
use Rattle.no_wire.proofs.Again.{one_frame}

-- less than a frame has no frame at its front
not_whole : (m : Msg) (rest x : List ℕ) → IsMessage m → IsPartial x → x ≡ frame m ++ rest → ⊥
not_whole m rest x h p e =
    let all : frame m ++ (rest ++ p.1) ≡ frame p.0 ++ [] = sym (append_assoc (frame m) rest p.1) ∙ ap (λ (t : List ℕ). t ++ p.1) (sym e) ∙ p.4 ∙ sym (append-nil (frame p.0)) in
    let r = one_frame m p.0 (rest ++ p.1) [] h p.2 all in
    let len : length (rest ++ p.1) ≡ 0 = ap length r.behind in
    let some = p.3 in
    omega (arith, len, length-append rest p.1, some)

pub one_stream : (a b : List Msg) (x y : List ℕ) → AreMessages a → AreMessages b → IsPartial x → IsPartial y → stream_of a x ≡ stream_of b y → (a ≡ b) × (x ≡ y)
one_stream [] [] x y ha hb px py e = (refl, e)
one_stream [] (n ∷ b) x y ha hb px py e = absurd (not_whole n (stream_of b y) x hb.0 px (e ∙ append_assoc (frame n) _ y))
one_stream (m ∷ a) [] x y ha hb px py e = absurd (not_whole m (stream_of a x) y ha.0 py (sym e ∙ append_assoc (frame m) _ x))
one_stream (m ∷ a) (n ∷ b) x y ha hb px py e =
    let r = one_frame m n (stream_of a x) (stream_of b y) ha.0 hb.0 (sym (append_assoc (frame m) _ x) ∙ e ∙ append_assoc (frame n) _ y) in
    let s = one_stream a b x y ha.1 hb.1 px py r.behind in
    (ap (λ (k : Msg). k ∷ a) r.message ∙ ap (λ (l : List Msg). n ∷ l) s.0, s.1)
