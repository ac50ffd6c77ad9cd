-- What entries leave, judged in three tests.
use Rattle.std.proofs.Common.{◌≡◌, ℕ, zero, suc, ◌+◌, true, false, Some, None, List, [], ◌∷◌, take, sym, subst, ◌∙◌, arith}
use Rattle.std.proofs.lemmas.Bool.{cond-true, cond-false}
use Rattle.std.proofs.lemmas.List.{length-take}
use Rattle.no_heap.specs.declared.block.Block.{Block}
use Rattle.no_heap.specs.declared.block.Entry.{Entry}
use Rattle.no_heap.specs.declared.block.TheConstants.{HEAP_START}
use Rattle.no_heap.specs.Blocks.{IsRising, AreLive, IsFirstBad, block_end}
use Rattle.no_heap.specs.Changes.{rises_from, told, left}

left_risen : (bs : List Block) (es : List Entry) → rises_from 0 es ≡ true → left bs es ≡ told bs es
left_risen bs es r = cond-true (rises_from 0 es) (told bs es) None r

pub left_none : (bs : List Block) (es : List Entry) → rises_from 0 es ≡ false → (cs : List Block) → left bs es ≡ Some cs → AreLive cs → ⊥
left_none bs es r cs is live = let none : left bs es ≡ None = cond-false (rises_from 0 es) (told bs es) None r in absurd cc

pub left_stuck : (bs : List Block) (es : List Entry) → rises_from 0 es ≡ true → ((cs : List Block) → told bs es ≡ Some cs → AreLive cs → ⊥) → (cs : List Block) → left bs es ≡ Some cs → AreLive cs → ⊥
left_stuck bs es r stuck cs is live = stuck cs (sym (left_risen bs es r) ∙ is) live

rising_take : (low n : ℕ) (bs : List Block) → IsRising low bs → IsRising low (take n bs)
rising_take low zero bs r = tt
rising_take low (suc n) [] r = tt
rising_take low (suc n) (b ∷ bs) r = (r.0, r.1, rising_take (block_end b) n bs r.2)

not_bad : (bs : List Block) (index : ℕ) → IsFirstBad bs index → AreLive bs → ⊥
not_bad bs index bad live = bad.bad (record { few = omega (arith, live.few, length-take (index + 1) bs); rising = rising_take HEAP_START (index + 1) bs live.rising })

pub left_bad : (bs : List Block) (es : List Entry) (out : List Block) (index : ℕ) → rises_from 0 es ≡ true → told bs es ≡ Some out → IsFirstBad out index → (cs : List Block) → left bs es ≡ Some cs → AreLive cs → ⊥
left_bad bs es out index r is bad cs says live =
    let again = left_risen bs es r in
    let same : cs ≡ out = cc in
    not_bad out index bad (subst AreLive same live)

pub left_live : (bs : List Block) (es : List Entry) (out : List Block) → rises_from 0 es ≡ true → told bs es ≡ Some out → left bs es ≡ Some out
left_live bs es out r is = left_risen bs es r ∙ is
