-- The texts of attributes (Bluespec reference guide, "Attributes"): lists of names, and two sides of names.
use Rattle.std.specs.Prelude.{ℕ, Bool, true, false, if◌then◌else◌, ◌==◌, List, [], ◌∷◌, Option, Some, None, option_map}
use Rattle.std.specs.Borrow.{Bor}
use Rattle.std.specs.List.{list_all}
use Rattle.std.specs.Option.{option_and_then}
use Rattle.bsv_ast.specs.Names.{begins_name, is_word}
use Rattle.bsv_types.specs.declared.attribute_text.AttributeToken.{AttributeToken}
use Rattle.bsv_types.specs.declared.attribute_text.AttributeToken.TheVariants.{Word, Comma, Open, Close}

-- the first byte, if there is one, passes the test
abbrev pub first_is : (ℕ → Bool) → List ℕ → Bool
first_is test [] = false
first_is test (b ∷ bytes) = test b

-- `,` `(` and `)`
abbrev pub mark : ℕ → Option AttributeToken
mark b = if b == 44 then Some Comma else if b == 40 then Some Open else if b == 41 then Some Close else None

-- a byte of a word in front of these pieces: the word that begins directly after it begins with it
abbrev pub in_word : ℕ → Bool → List AttributeToken → List AttributeToken
in_word b goes_on [] = Word (b ∷ []) ∷ []
in_word b goes_on (Word word ∷ pieces) = if goes_on then Word (b ∷ word) ∷ pieces else Word (b ∷ []) ∷ Word word ∷ pieces
in_word b goes_on (Comma ∷ pieces) = Word (b ∷ []) ∷ Comma ∷ pieces
in_word b goes_on (Open ∷ pieces) = Word (b ∷ []) ∷ Open ∷ pieces
in_word b goes_on (Close ∷ pieces) = Word (b ∷ []) ∷ Close ∷ pieces

-- a byte in front of these pieces: of a word, a blank or a mark
abbrev pub in_front : ℕ → Bool → List AttributeToken → Option (List AttributeToken)
in_front b goes_on pieces =
    if is_word b then Some (in_word b goes_on pieces) else if b == 32 then Some pieces
    else option_map (λ piece. piece ∷ pieces) (mark b)

-- the words and the marks of a text, where it has no other byte than theirs and blanks
abbrev pub words_and_marks : List ℕ → Option (List AttributeToken)
words_and_marks [] = Some []
words_and_marks (b ∷ bytes) = option_and_then (in_front b (first_is is_word bytes)) (words_and_marks bytes)

-- a word is a name, where no digit begins it
abbrev pub is_good : AttributeToken → Bool
is_good (Word word) = first_is begins_name word
is_good Comma = true
is_good Open = true
is_good Close = true

abbrev pub all_good : List AttributeToken → Option (List AttributeToken)
all_good pieces = if list_all is_good pieces then Some pieces else None

-- the names and the marks of a text
unfoldable pub pieces : List ℕ → Option (List AttributeToken)
pieces text = option_and_then all_good (words_and_marks text)

-- names, and the pieces after them
abbrev pub Names : Type 0
Names = List (List ℕ) × List AttributeToken

abbrev pub one_name : List ℕ → List AttributeToken → Names
one_name name rest = (name ∷ [], rest)

abbrev pub one_more : List ℕ → Names → Names
one_more name names = (name ∷ names.0, names.1)

-- the names at the front, one or more, with commas between them: after a comma stands one more
abbrev pub names_at : List AttributeToken → Option Names
names_at (Word name ∷ []) = Some (one_name name [])
names_at (Word name ∷ Comma ∷ rest) = option_map (one_more name) (names_at rest)
names_at (Word name ∷ piece ∷ rest) = Some (one_name name (piece ∷ rest))
names_at _ = None

-- the names, where a `)` comes after them
abbrev pub closed : List (List ℕ) → List AttributeToken → Option Names
closed names (Close ∷ rest) = Some (names, rest)
closed names _ = None

-- a side at the front: one name, or names in brackets
abbrev pub side_at : List AttributeToken → Option Names
side_at (Word name ∷ rest) = Some (one_name name rest)
side_at (Open ∷ rest) = option_and_then (λ names. closed names.0 names.1) (names_at rest)
side_at _ = None

-- names with nothing after them
abbrev pub alone : List (List ℕ) → List AttributeToken → Option (List (List ℕ))
alone names [] = Some names
alone names (piece ∷ rest) = None

abbrev pub two_or_more : List (List ℕ) → Option (List (List ℕ))
two_or_more (first ∷ second ∷ names) = Some (first ∷ second ∷ names)
two_or_more _ = None

abbrev pub Sides : Type 0
Sides = List (List ℕ) × List (List ℕ)

-- both sides, where the first is this one
abbrev pub with_left : List (List ℕ) → List (List ℕ) → Sides
with_left left right = (left, right)

abbrev pub sides_from : List (List ℕ) → List AttributeToken → Option Sides
sides_from left (Comma ∷ rest) =
    option_map (with_left left) (option_and_then (λ names. alone names.0 names.1) (side_at rest))
sides_from left _ = None

-- two or more names with commas between them
unfoldable pub listed : List ℕ → Option (List (List ℕ))
listed text =
    option_and_then two_or_more (option_and_then (λ names. alone names.0 names.1) (option_and_then names_at (pieces text)))

-- two sides with a comma between them
unfoldable pub sides : List ℕ → Option Sides
sides text = option_and_then (λ names. sides_from names.0 names.1) (option_and_then side_at (pieces text))

-- what a contract sees of names and the pieces after them
abbrev pub shown : List (List ℕ) × Bor (List AttributeToken) → Names
shown found = (found.0, found.1.now)
