-- Strings and names, without their quotes and escapes.
use Rattle.std.specs.Prelude.{ℕ, ◌+◌, ◌-◌, ◌*◌, Bool, false, ◌&&◌, ◌||◌, List, [], ◌∷◌, ◌==◌, nat_le, length, take, drop, if◌then◌else◌}

-- a hexadecimal digit
abbrev pub is_hex : ℕ → Bool
is_hex b = (nat_le 48 b && nat_le b 57) || (nat_le 97 b && nat_le b 102) || (nat_le 65 b && nat_le b 70)

-- the value of a hexadecimal digit
abbrev pub hex_value : ℕ → ℕ
hex_value b = if nat_le b 57 then b - 48 else (if nat_le b 70 then b - 55 else b - 87)

-- the byte that stands first, and how many bytes its spelling has
abbrev pub first_byte : List ℕ → ℕ × ℕ
first_byte [] = (0, 1)
first_byte (x ∷ []) = (x, 1)
first_byte (x ∷ y ∷ []) = if x == 92 && y == 92 then (92, 2) else (x, 1)
first_byte (x ∷ y ∷ z ∷ rest) = if x == 92 && y == 92 then (92, 2) else (if x == 92 && (is_hex y && is_hex z) then (16 * hex_value y + hex_value z, 3) else (x, 1))

-- a backslash and two hexadecimal digits are that byte, two backslashes are one, and another backslash stands for itself
abbrev pub unescaped : List ℕ → List ℕ
unescaped [] = []
unescaped (x ∷ []) = x ∷ []
unescaped (x ∷ y ∷ []) = if x == 92 && y == 92 then 92 ∷ [] else x ∷ unescaped (y ∷ [])
unescaped (x ∷ y ∷ z ∷ rest) =
    if x == 92 && y == 92 then 92 ∷ unescaped (z ∷ rest)
    else (if x == 92 && (is_hex y && is_hex z) then (16 * hex_value y + hex_value z) ∷ unescaped rest
    else x ∷ unescaped (y ∷ z ∷ rest))

-- the bytes between two quotes
abbrev pub inner : List ℕ → List ℕ
inner bytes = take (length bytes - 2) (drop 1 bytes)

-- whether a quote stands first
abbrev pub is_quoted : List ℕ → Bool
is_quoted [] = false
is_quoted (b ∷ bytes) = b == 34

-- a name by its spelling, which may be a string
abbrev pub name_of : List ℕ → List ℕ
name_of bytes = if is_quoted bytes then unescaped (inner bytes) else bytes
