-- The bytes that grammars name.
use Rattle.std.specs.Prelude.{ℕ}

-- ---- ends and spaces

abbrev pub tab : ℕ
tab = 9

abbrev pub newline : ℕ
newline = 10

abbrev pub space : ℕ
space = 32

-- ---- signs

abbrev pub hash : ℕ
hash = 35

abbrev pub left_paren : ℕ
left_paren = 40

abbrev pub right_paren : ℕ
right_paren = 41

abbrev pub star : ℕ
star = 42

abbrev pub plus : ℕ
plus = 43

abbrev pub comma : ℕ
comma = 44

abbrev pub minus : ℕ
minus = 45

abbrev pub point : ℕ
point = 46

abbrev pub slash : ℕ
slash = 47

abbrev pub colon : ℕ
colon = 58

abbrev pub less : ℕ
less = 60

abbrev pub equals : ℕ
equals = 61

abbrev pub greater : ℕ
greater = 62

abbrev pub at_sign : ℕ
at_sign = 64

abbrev pub left_bracket : ℕ
left_bracket = 91

abbrev pub right_bracket : ℕ
right_bracket = 93

abbrev pub underscore : ℕ
underscore = 95

abbrev pub bar : ℕ
bar = 124

-- ---- digits and letters

abbrev pub digit_0 : ℕ
digit_0 = 48

abbrev pub digit_9 : ℕ
digit_9 = 57

abbrev pub upper_a : ℕ
upper_a = 65

abbrev pub upper_h : ℕ
upper_h = 72

abbrev pub upper_v : ℕ
upper_v = 86

abbrev pub upper_z : ℕ
upper_z = 90

abbrev pub lower_a : ℕ
lower_a = 97

abbrev pub lower_i : ℕ
lower_i = 105

abbrev pub lower_s : ℕ
lower_s = 115

abbrev pub lower_w : ℕ
lower_w = 119

abbrev pub lower_z : ℕ
lower_z = 122
