-- Blocks that stand amid free slots: what moving a few of them by one slot leaves of the list.
use Rattle.std.proofs.Common.{◌≡◌, ℕ, suc, ◌+◌, ◌-◌, ◌<◌, ◌≤◌, List, [], ◌∷◌, ◌++◌, length, take, drop, set, sym, ap, ◌∙◌, arith, append_assoc, length-append, length-drop, length-set}
use Rattle.std.specs.List.{insert, remove}
use Rattle.std.proofs.lemmas.List.{take_at, drop_at, take-take, take-append-drop, length-take-le, drop-drop, drop-set, drop-set-add, take-set-le, take_more_set, take_more, drop_more, drop-append-le, drop-take}
use Rattle.std.proofs.lemmas.List.Edits.{length-insert, insert-append_left, remove-append_left, length-remove}
use Rattle.no_heap.specs.declared.block.Block.{Block}
use Rattle.no_heap.proofs.Ordered.{nth}
use borrow.Rule.Slice.PartMut.{put_mid, post_of}

-- ---- the blocks from the first on, where more of them follow

take_inserted : (xs : List Block) (count i : ℕ) (b : Block) → i ≤ count → count ≤ length xs → take (count + 1) (insert xs i b) ≡ insert (take count xs) i b
take_inserted xs count i b within few =
    let front = take count xs in
    let long : length front ≡ count = length-take-le count xs few in
    ap (λ (l : List Block). take (count + 1) (insert l i b)) (sym (take-append-drop count xs))
    ∙ ap (take (count + 1)) (insert-append_left front (drop count xs) i b (omega (arith, long)))
    ∙ take_at (insert front i b) (drop count xs) (count + 1) (length-insert front i b (omega (arith, long)) ∙ omega (arith, long))

take_removed : (xs : List Block) (count i : ℕ) → i < count → count ≤ length xs → take (count - 1) (remove xs i) ≡ remove (take count xs) i
take_removed xs count i within few =
    let front = take count xs in
    let long : length front ≡ count = length-take-le count xs few in
    ap (λ (l : List Block). take (count - 1) (remove l i)) (sym (take-append-drop count xs))
    ∙ ap (take (count - 1)) (remove-append_left front (drop count xs) i (omega (arith, long)))
    ∙ take_at (remove front i) (drop count xs) (count - 1) (omega (arith, length-remove front i (omega (arith, long)), long))

-- ---- a block put in

-- the slots in front of it move by one to the front
pub put_front : (xs : List Block) (first count i k : ℕ) (b : Block) (ys : List Block) → 0 < first → first + count < length xs → i ≤ count → k ≡ suc i
    → ys ≡ drop 1 (take k (drop (first - 1) (set xs (first - 1) b))) ++ take 1 (take k (drop (first - 1) (set xs (first - 1) b)))
    → take (count + 1) (drop (first - 1) (put_mid (first - 1) k (set xs (first - 1) b) ys)) ≡ insert (take count (drop first xs)) i b
put_front xs first count i k b ys front back within more is =
    let at = first - 1 in
    let slots = set xs at b in
    let blocks = drop first xs in
    let whole : drop at slots ≡ b ∷ blocks = drop-set xs at b (omega arith) ∙ ap (λ (n : ℕ). b ∷ drop n xs) (omega arith) in
    let moved : ys ≡ take i blocks ++ b ∷ [] = is ∙ ap (λ (l : List Block). drop 1 (take k l) ++ take 1 (take k l)) whole ∙ ap (λ (n : ℕ). drop 1 (take n (b ∷ blocks)) ++ take 1 (take n (b ∷ blocks))) more in
    let rest : post_of at k slots ≡ drop i blocks = ap (drop k) whole ∙ ap (λ (n : ℕ). drop n (b ∷ blocks)) more in
    let all : drop at (put_mid at k slots ys) ≡ insert blocks i b =
    drop_at (take at slots) (ys ++ post_of at k slots) at (length-take-le at slots (omega (arith, length-set xs at b)))
    ∙ ap (λ (l : List Block). l ++ post_of at k slots) moved
    ∙ append_assoc (take i blocks) (b ∷ []) (post_of at k slots)
    ∙ ap (λ (l : List Block). take i blocks ++ b ∷ l) rest in
    ap (take (count + 1)) all ∙ take_inserted blocks count i b within (omega (arith, length-drop first xs))

-- the slots behind it move by one to the back
pub put_back : (xs : List Block) (first count i j k : ℕ) (b : Block) (ys : List Block) → first + count < length xs → count ≡ i + j → k ≡ j + 1
    → (let m = take k (drop (first + i) (set xs (first + count) b)) in ys ≡ drop (length m - 1) m ++ take (length m - 1) m)
    → take (count + 1) (drop first (put_mid (first + i) k (set xs (first + count) b) ys)) ≡ insert (take count (drop first xs)) i b
put_back xs first count i j k b ys back sum more is =
    let slots = set xs (first + count) b in
    let blocks = drop first xs in
    let behind = drop i blocks in
    let m = take k (drop (first + i) slots) in
    let long : j < length behind = omega (arith, length-drop i blocks, length-drop first xs) in
    let tail : drop (first + i) slots ≡ set behind j b =
    sym (drop-drop i first slots)
    ∙ ap (drop i) (drop-set-add first xs count b)
    ∙ ap (λ (n : ℕ). drop i (set blocks n b)) sum
    ∙ drop-set-add i blocks j b in
    let part : m ≡ take j behind ++ b ∷ [] = ap (take k) tail ∙ ap (λ (n : ℕ). take n (set behind j b)) more ∙ take_more_set behind j b long in
    let some : length (take j behind) ≡ j = length-take-le j behind (omega arith) in
    let size : length m - 1 ≡ j = omega (arith, ap length part, length-append (take j behind) (b ∷ []), some) in
    let moved : ys ≡ b ∷ take j behind =
    is
    ∙ ap (λ (n : ℕ). drop n m ++ take n m) size
    ∙ ap (λ (l : List Block). drop j l ++ take j l) part
    ∙ ap (λ (l : List Block). l ++ take j (take j behind ++ b ∷ [])) (drop_at (take j behind) (b ∷ []) j some)
    ∙ ap (λ (l : List Block). b ∷ l) (take_at (take j behind) (b ∷ []) j some) in
    let front : drop first (take (first + i) slots) ≡ take i blocks = drop-take first i slots ∙ ap (take i) (drop-set-add first xs count b) ∙ take-set-le i blocks count b (omega arith) in
    let post = post_of (first + i) k slots in
    let length_front : length (take i blocks) ≡ i = length-take-le i blocks (omega (arith, length-drop first xs)) in
    let all : drop first (put_mid (first + i) k slots ys) ≡ (take i blocks ++ b ∷ take j behind) ++ post =
    drop-append-le first (take (first + i) slots) (ys ++ post) (omega (arith, length-take-le (first + i) slots (omega (arith, length-set xs (first + count) b))))
    ∙ ap (λ (l : List Block). l ++ (ys ++ post)) front
    ∙ ap (λ (l : List Block). take i blocks ++ (l ++ post)) moved
    ∙ sym (append_assoc (take i blocks) (b ∷ take j behind) post) in
    ap (take (count + 1)) all
    ∙ take_at (take i blocks ++ b ∷ take j behind) post (count + 1) (omega (arith, length-append (take i blocks) (b ∷ take j behind), length_front, some))
    ∙ ap (λ (l : List Block). l ++ b ∷ take j behind) (sym (take-take i count blocks (omega arith)))
    ∙ ap (λ (l : List Block). take i (take count blocks) ++ b ∷ l) (sym (ap (λ (n : ℕ). drop i (take n blocks)) sum ∙ drop-take i j blocks))

-- ---- a block taken out

-- the slots in front of it move by one to the back
pub gone_front : (xs : List Block) (first count i k : ℕ) (ys : List Block) → first + count ≤ length xs → i < count → k ≡ i + 1
    → (let m = take k (drop first xs) in ys ≡ drop (length m - 1) m ++ take (length m - 1) m)
    → take (count - 1) (drop (first + 1) (put_mid first k xs ys)) ≡ remove (take count (drop first xs)) i
gone_front xs first count i k ys back within more is =
    let blocks = drop first xs in
    let m = take k blocks in
    let b = nth blocks i in
    let one : i + 1 ≡ suc i = omega arith in
    let long : i < length blocks = omega (arith, length-drop first xs) in
    let part : m ≡ take i blocks ++ b ∷ [] = ap (λ (n : ℕ). take n blocks) more ∙ take_more blocks i (record { at = 0; size = 0 }) long in
    let some : length (take i blocks) ≡ i = length-take-le i blocks (omega arith) in
    let size : length m - 1 ≡ i = omega (arith, ap length part, length-append (take i blocks) (b ∷ []), some) in
    let moved : ys ≡ b ∷ take i blocks =
    is
    ∙ ap (λ (n : ℕ). drop n m ++ take n m) size
    ∙ ap (λ (l : List Block). drop i l ++ take i l) part
    ∙ ap (λ (l : List Block). l ++ take i (take i blocks ++ b ∷ [])) (drop_at (take i blocks) (b ∷ []) i some)
    ∙ ap (λ (l : List Block). b ∷ l) (take_at (take i blocks) (b ∷ []) i some) in
    let all : drop (first + 1) (put_mid first k xs ys) ≡ remove blocks i =
    sym (drop-drop 1 first (put_mid first k xs ys))
    ∙ ap (drop 1) (drop_at (take first xs) (ys ++ post_of first k xs) first (length-take-le first xs (omega arith)))
    ∙ ap (λ (l : List Block). drop 1 (l ++ post_of first k xs)) moved
    ∙ ap (λ (n : ℕ). take i blocks ++ drop n blocks) (more ∙ one) in
    ap (take (count - 1)) all ∙ take_removed blocks count i within (omega (arith, length-drop first xs))

-- the slots behind it move by one to the front
pub gone_back : (xs : List Block) (first count i j k : ℕ) (ys : List Block) → first + count ≤ length xs → count ≡ suc i + j → k ≡ suc j
    → ys ≡ drop 1 (take k (drop (first + i) xs)) ++ take 1 (take k (drop (first + i) xs))
    → take (count - 1) (drop first (put_mid (first + i) k xs ys)) ≡ remove (take count (drop first xs)) i
gone_back xs first count i j k ys back sum more is =
    let blocks = drop first xs in
    let behind = drop (suc i) blocks in
    let b = nth blocks i in
    let one : i + 1 ≡ suc i = omega arith in
    let long : i < length blocks = omega (arith, length-drop first xs) in
    let tail : drop (first + i) xs ≡ b ∷ behind = sym (drop-drop i first xs) ∙ drop_more blocks i (record { at = 0; size = 0 }) long ∙ ap (λ (n : ℕ). b ∷ drop n blocks) one in
    let moved : ys ≡ take j behind ++ b ∷ [] = is ∙ ap (λ (l : List Block). drop 1 (take k l) ++ take 1 (take k l)) tail ∙ ap (λ (n : ℕ). drop 1 (take n (b ∷ behind)) ++ take 1 (take n (b ∷ behind))) more in
    let post = post_of (first + i) k xs in
    let length_front : length (take i blocks) ≡ i = length-take-le i blocks (omega arith) in
    let length_back : length (take j behind) ≡ j = length-take-le j behind (omega (arith, length-drop (suc i) blocks, length-drop first xs)) in
    let all : drop first (put_mid (first + i) k xs ys) ≡ (take i blocks ++ take j behind) ++ (b ∷ post) =
    drop-append-le first (take (first + i) xs) (ys ++ post) (omega (arith, length-take-le (first + i) xs (omega arith)))
    ∙ ap (λ (l : List Block). l ++ (ys ++ post)) (drop-take first i xs)
    ∙ ap (λ (l : List Block). take i blocks ++ (l ++ post)) moved
    ∙ ap (λ (l : List Block). take i blocks ++ l) (append_assoc (take j behind) (b ∷ []) post)
    ∙ sym (append_assoc (take i blocks) (take j behind) (b ∷ post)) in
    ap (take (count - 1)) all
    ∙ take_at (take i blocks ++ take j behind) (b ∷ post) (count - 1) (omega (arith, length-append (take i blocks) (take j behind), length_front, length_back))
    ∙ ap (λ (l : List Block). l ++ take j behind) (sym (take-take i count blocks (omega arith)))
    ∙ ap (λ (l : List Block). take i (take count blocks) ++ l) (sym (ap (λ (n : ℕ). drop (suc i) (take n blocks)) sum ∙ drop-take (suc i) j blocks))
