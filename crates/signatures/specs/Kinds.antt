-- The bytes that begin signatures (ECMA-335 II.23.2.1 to II.23.2.6).
use Rattle.std.specs.Prelude.{ℕ, Bool, true, false}

-- FIELD, of a field (II.23.2.4)
abbrev pub field_kind : ℕ
field_kind = 0x06

-- LOCAL_SIG, of locals (II.23.2.6)
abbrev pub locals_kind : ℕ
locals_kind = 0x07

-- of a method (II.23.2.1): DEFAULT, GENERIC and VARARG, and each with HASTHIS
abbrev pub default_head : ℕ
default_head = 0x00

abbrev pub default_this_head : ℕ
default_this_head = 0x20

abbrev pub generic_head : ℕ
generic_head = 0x10

abbrev pub generic_this_head : ℕ
generic_this_head = 0x30

abbrev pub vararg_head : ℕ
vararg_head = 0x05

abbrev pub vararg_this_head : ℕ
vararg_this_head = 0x25

-- DEFAULT, with HASTHIS or without
abbrev pub head_of : Bool → ℕ
head_of true = default_this_head
head_of false = default_head
