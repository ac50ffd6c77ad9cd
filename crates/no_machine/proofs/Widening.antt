-- More slots leave a machine where it stands.
use Rattle.std.proofs.Common.{◌≡◌, ℕ, zero, suc, ◌+◌, ◌≤◌, Bool, List, [], ◌∷◌, ◌++◌, length, take, drop, slice_get, Some, refl, sym, ap, subst, arith}
use Rattle.no_semantics.specs.Registers.{Registers}
use Rattle.no_semantics.specs.States.{State}
use Rattle.no_semantics.specs.Values.{Program}
use Rattle.no_machine.specs.Beginning.{Grows}
use Rattle.no_machine.specs.Standing.{AreWaiting, Covers, Stands}
use Rattle.no_machine.specs.Turning.{IsHere}
use Rattle.no_machine.specs.declared.frame.Saved.{Saved}
use Rattle.no_machine.specs.declared.state.Core.{Core}

length_more : (xs ys : List ℕ) → length (xs ++ ys) ≡ length xs + length ys
length_more [] ys = omega arith
length_more (x ∷ xs) ys = omega (arith, length_more xs ys)

get_more : (xs ys : List ℕ) (r n : ℕ) → slice_get xs r ≡ Some n → slice_get (xs ++ ys) r ≡ Some n
get_more [] ys r n e = absurd cc
get_more (x ∷ xs) ys zero n e = e
get_more (x ∷ xs) ys (suc r) n e = get_more xs ys r n e

drop_more : (k : ℕ) (xs ys : List ℕ) → k ≤ length xs → drop k (xs ++ ys) ≡ drop k xs ++ ys
drop_more zero xs ys le = refl
drop_more (suc k) [] ys le = absurd (omega (arith, le))
drop_more (suc k) (x ∷ xs) ys le = drop_more k xs ys (omega (arith, le))

take_more : (k : ℕ) (xs ys : List ℕ) → k ≤ length xs → take k (xs ++ ys) ≡ take k xs
take_more zero xs ys le = refl
take_more (suc k) [] ys le = absurd (omega (arith, le))
take_more (suc k) (x ∷ xs) ys le = ap (λ (l : List ℕ). x ∷ l) (take_more k xs ys (omega (arith, le)))

covers_more : (registers : Registers) (window more : List ℕ) → Covers registers window → Covers registers (window ++ more)
covers_more registers window more c = record {
  few = c.few;
  room = omega (arith, c.room, length_more window more);
  each = λ r n e. get_more window more r n (c.each r n e);
}

stands_more : (p : Program) (at base sp : ℕ) (slots more : List ℕ) (frames : List Saved) (s : State) → Stands p at base sp slots frames s → Stands p at base sp (slots ++ more) frames s
stands_more p at base sp slots more frames s st = record {
  inside = omega (arith, st.inside, length_more slots more);
  frame = record {
    function = st.frame.function;
    is = st.frame.is;
    long = st.frame.long;
    place = st.frame.place;
    covers = subst (Covers s.frame.registers) (sym (drop_more base slots more st.inside)) (covers_more s.frame.registers (drop base slots) more st.frame.covers);
  };
  callers = subst (AreWaiting p s.frame.saved s.callers frames) (sym (take_more base slots more st.inside)) st.callers;
  sp_is = st.sp_is;
}

-- a machine stands where it stood
pub here_wider : {M : Type 0} (p : Program) (byte : M → ℕ → ℕ) (held : M → ℕ → Bool) (old new : Core M) → Grows old new → (s : State) → IsHere p old.at old.base old.sp old.slots.items old.frames.items (held old.mem) (byte old.mem) s → IsHere p new.at new.base new.sp new.slots.items new.frames.items (held new.mem) (byte new.mem) s
here_wider {M = M} p byte held old new grows s here =
    let wider : IsHere p old.at old.base old.sp new.slots.items old.frames.items (held old.mem) (byte old.mem) s = record {
      stands = subst (λ (l : List ℕ). Stands p old.at old.base old.sp l old.frames.items s) (sym grows.slots) (stands_more p old.at old.base old.sp old.slots.items grows.more old.frames.items s here.stands);
      agrees = here.agrees;
      never = here.never;
    } in
    subst (λ (c : Core M). IsHere p c.at c.base c.sp new.slots.items c.frames.items (held c.mem) (byte c.mem) s) (sym grows.same) wider
