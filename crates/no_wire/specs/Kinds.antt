-- Kinds of messages (docs/FORMATS.md, "Frames").
use Rattle.std.specs.Prelude.{◌≡◌, ℕ, ◌-◌, ◌≤◌, ◌%◌, Bool, true, false, ◌==◌, if◌then◌else◌, Option, Some, None}
use Rattle.no_wire.specs.declared.kind.Kind.{Kind}
use Rattle.no_wire.specs.declared.kind.Kind.TheVariants as kind

-- the number of a kind
abbrev pub kind_number : Kind → ℕ
kind_number kind.Load = 1
kind_number kind.LoadEnd = 2
kind_number kind.Start = 3
kind_number kind.Blocks = 4
kind_number kind.Page = 5
kind_number kind.Zero = 6
kind_number kind.Bye = 7
kind_number kind.Abandon = 8
kind_number kind.Want = 17
kind_number kind.Output = 18
kind_number kind.Dirty = 19
kind_number kind.Heap = 20
kind_number kind.Finish = 21
kind_number kind.Declined = 22

-- the kind of a number, where it is that of one
abbrev pub kind_at : ℕ → Option Kind
kind_at n =
    if n == 1 then Some kind.Load
    else (if n == 2 then Some kind.LoadEnd
    else (if n == 3 then Some kind.Start
    else (if n == 4 then Some kind.Blocks
    else (if n == 5 then Some kind.Page
    else (if n == 6 then Some kind.Zero
    else (if n == 7 then Some kind.Bye
    else (if n == 8 then Some kind.Abandon
    else (if n == 17 then Some kind.Want
    else (if n == 18 then Some kind.Output
    else (if n == 19 then Some kind.Dirty
    else (if n == 20 then Some kind.Heap
    else (if n == 21 then Some kind.Finish
    else (if n == 22 then Some kind.Declined
    else None)))))))))))))

-- the kinds whose messages belong to no epoch
abbrev pub is_of_no_epoch : Kind → Bool
is_of_no_epoch kind.Load = true
is_of_no_epoch kind.LoadEnd = true
is_of_no_epoch kind.Bye = true
is_of_no_epoch _ = false

-- what a frame of a kind can say as the length behind it
abbrev pub HasLength : Kind → ℕ → Type 0
HasLength kind.Load n = 6 ≤ n
HasLength kind.LoadEnd n = n ≡ 13
HasLength kind.Start n = (26 ≤ n) × (n ≤ 538) × ((n - 26) % 8 ≡ 0)
HasLength kind.Blocks n = (13 ≤ n) × (n ≤ 65533) × ((n - 5) % 8 ≡ 0)
HasLength kind.Page n = n ≡ 4105
HasLength kind.Zero n = n ≡ 9
HasLength kind.Bye n = n ≡ 5
HasLength kind.Abandon n = n ≡ 5
HasLength kind.Want n = n ≡ 9
HasLength kind.Output n = 6 ≤ n
HasLength kind.Dirty n = n ≡ 4105
HasLength kind.Heap n = (13 ≤ n) × (n ≤ 65533) × ((n - 5) % 8 ≡ 0)
HasLength kind.Finish n = n ≡ 38
HasLength kind.Declined n = n ≡ 5
