-- Sums and differences as the registers keep them: pointers count mod 1,048,576, the byte count mod 65,536.
use Rattle.std.specs.Prelude.{ℕ, ◌+◌, ◌-◌, ◌*◌, ◌%◌}

-- the sum of two numbers in 20 bits
abbrev pub sum20 : ℕ → ℕ → ℕ
sum20 a b = (a + b) % 1048576

-- the address of an offset in a segment, in 20 bits (§1.5)
abbrev pub address_of : ℕ → ℕ → ℕ
address_of offset segment = (segment * 16 + offset) % 1048576

-- BC after some bytes, modulo 65,536 (§7.9)
abbrev pub count_down : ℕ → ℕ → ℕ
count_down count by = (count + (65536 - by)) % 65536
