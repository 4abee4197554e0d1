-- What attributes ask for is in order: the names in their texts are names.
use Rattle.std.proofs.Common.{◌≡◌, ℕ, ◌≤◌, Bool, true, false, cond, ◌&&◌, List, [], ◌∷◌, ◌++◌, length, Option, Some, None, Ok, option_map, refl, subst, arith}
use Rattle.std.specs.Prelude.{nat_le, ◌==◌, codes}
use Rattle.std.specs.List.{list_all}
use Rattle.std.specs.Str.{bytes_eq}
use Rattle.std.specs.Option.{option_and_then}
use Rattle.std.proofs.lemmas.Bool.{le-leb, and_parts, and_from}
use Rattle.std.proofs.lemmas.Option.{same_Some as some_is}
use Rattle.bsv_lemmas.proofs.Lists.{all_joined}
use Rattle.bsv_ast.specs.Names.{begins_name, is_word, is_name}
use Rattle.bsv_ast.specs.declared.text.Span.{Span}
use Rattle.bsv_ast.specs.declared.modules.Attribute.{Attribute as Written}
use Rattle.bsv_ast.specs.declared.modules.AttributeGroup.{AttributeGroup}
use Rattle.bsv_types.specs.declared.attribute_text.AttributeToken.{AttributeToken}
use Rattle.bsv_types.specs.declared.attribute_text.AttributeToken.TheVariants.{Word, Comma, Open, Close}
use Rattle.bsv_types.specs.declared.attributes.Attribute.{Attribute}
use Rattle.bsv_types.specs.declared.attributes.Attribute.TheVariants as asks
use Rattle.bsv_types.specs.declared.asked.Owner.{Owner}
use Rattle.bsv_types.specs.declared.asked.Owner.TheVariants as owner
use Rattle.bsv_types.specs.AttributeTexts.{first_is, mark, in_word, in_front, words_and_marks, is_good, all_good, pieces, Names, one_name, one_more, names_at, closed, side_at, alone, two_or_more, Sides, with_left, sides_from, listed, sides}
use Rattle.bsv_types.specs.Names.{names_from, orders_rules, of_module, of_rule}
use Rattle.bsv_types.specs.Asked.{without_text, preempts, with_text, meaning, attribute}
use Rattle.bsv_statements.specs.Bodies.{at}
use Rattle.bsv_typing.proofs.Bound.{tested_step}
use Rattle.bsv_statements.proofs.RightCalls.{ok_is, went, there_is}
use Rattle.bsv_modules.specs.Modules.{asked_by, asked}

-- ---- steps that may give nothing

stepped : {A B : Type 0} (o : Option A) (f : A → Option B) (y : B) → option_and_then f o ≡ Some y → (x : A) × (o ≡ Some x) × (f x ≡ Some y)
stepped None f y e = absurd cc
stepped (Some x) f y e = (x, refl, e)

mapped : {A B : Type 0} (o : Option A) (f : A → B) (y : B) → option_map f o ≡ Some y → (x : A) × (o ≡ Some x) × (f x ≡ y)
mapped None f y e = absurd cc
mapped (Some x) f y e = (x, refl, some_is (f x) y e)

all_more : {A : Type 0} (p : A → Bool) (x : A) (xs : List A) → p x ≡ true → list_all p xs ≡ true → list_all p (x ∷ xs) ≡ true
all_more p x xs h g = and_from (p x) (list_all p xs) h g

all_after : {A : Type 0} (p : A → Bool) (x : A) (xs : List A) → list_all p (x ∷ xs) ≡ true → list_all p xs ≡ true
all_after p x xs h = (and_parts (p x) (list_all p xs) h).1

all_first : {A : Type 0} (p : A → Bool) (x : A) (xs : List A) → list_all p (x ∷ xs) ≡ true → p x ≡ true
all_first p x xs h = (and_parts (p x) (list_all p xs) h).0

-- ---- the pieces of a text

-- a byte or more, all of words
abbrev is_whole : List ℕ → Bool
is_whole [] = false
is_whole (b ∷ bytes) = list_all is_word (b ∷ bytes)

abbrev of_bytes : AttributeToken → Bool
of_bytes (Word word) = is_whole word
of_bytes Comma = true
of_bytes Open = true
of_bytes Close = true

abbrev is_right : AttributeToken → Bool
is_right (Word word) = is_name word
is_right Comma = true
is_right Open = true
is_right Close = true

whole_bytes : (word : List ℕ) → is_whole word ≡ true → list_all is_word word ≡ true
whole_bytes [] h = absurd cc
whole_bytes (b ∷ bytes) h = h

alone_whole : (b : ℕ) → is_word b ≡ true → is_whole (b ∷ []) ≡ true
alone_whole b h = all_more is_word b [] h refl

in_word_right : (b : ℕ) (goes_on : Bool) (ps : List AttributeToken) → is_word b ≡ true → list_all of_bytes ps ≡ true → list_all of_bytes (in_word b goes_on ps) ≡ true
in_word_right b goes_on [] h all = all_more of_bytes (Word (b ∷ [])) [] (alone_whole b h) refl
in_word_right b true (Word word ∷ ps) h all = all_more of_bytes (Word (b ∷ word)) ps (all_more is_word b word h (whole_bytes word (all_first of_bytes (Word word) ps all))) (all_after of_bytes (Word word) ps all)
in_word_right b false (Word word ∷ ps) h all = all_more of_bytes (Word (b ∷ [])) (Word word ∷ ps) (alone_whole b h) all
in_word_right b goes_on (Comma ∷ ps) h all = all_more of_bytes (Word (b ∷ [])) (Comma ∷ ps) (alone_whole b h) all
in_word_right b goes_on (Open ∷ ps) h all = all_more of_bytes (Word (b ∷ [])) (Open ∷ ps) (alone_whole b h) all
in_word_right b goes_on (Close ∷ ps) h all = all_more of_bytes (Word (b ∷ [])) (Close ∷ ps) (alone_whole b h) all

mark_right : (b : ℕ) (p : AttributeToken) → mark b ≡ Some p → of_bytes p ≡ true
mark_right b p e = by (b == 44) (b == 40) (b == 41) e where
  by : (x y z : Bool) → cond x (Some Comma) (cond y (Some Open) (cond z (Some Close) None)) ≡ Some p → of_bytes p ≡ true
  by true y z at = subst (λ q. of_bytes q ≡ true) (some_is Comma p at) refl
  by false true z at = subst (λ q. of_bytes q ≡ true) (some_is Open p at) refl
  by false false true at = subst (λ q. of_bytes q ≡ true) (some_is Close p at) refl
  by false false false at = absurd cc

in_front_right : (b : ℕ) (goes_on : Bool) (ps qs : List AttributeToken) → list_all of_bytes ps ≡ true → in_front b goes_on ps ≡ Some qs → list_all of_bytes qs ≡ true
in_front_right b goes_on ps qs all e = by (is_word b) (b == 32) refl e where
  by : (x y : Bool) → is_word b ≡ x → cond x (Some (in_word b goes_on ps)) (cond y (Some ps) (option_map (λ piece. piece ∷ ps) (mark b))) ≡ Some qs → list_all of_bytes qs ≡ true
  by true y is at = subst (λ rs. list_all of_bytes rs ≡ true) (some_is (in_word b goes_on ps) qs at) (in_word_right b goes_on ps is all)
  by false true is at = subst (λ rs. list_all of_bytes rs ≡ true) (some_is ps qs at) all
  by false false is at =
      let m = mapped (mark b) (λ piece. piece ∷ ps) qs at in
      subst (λ rs. list_all of_bytes rs ≡ true) m.2 (all_more of_bytes m.0 ps (mark_right b m.0 m.1) all)

words_right : (text : List ℕ) (ps : List AttributeToken) → words_and_marks text ≡ Some ps → list_all of_bytes ps ≡ true
words_right [] ps e = subst (λ rs. list_all of_bytes rs ≡ true) (some_is [] ps e) refl
words_right (b ∷ bytes) ps e =
    let h = stepped (words_and_marks bytes) (in_front b (first_is is_word bytes)) ps e in
    in_front_right b (first_is is_word bytes) h.0 ps (words_right bytes h.0 h.1) h.2

name_is : (word : List ℕ) → is_whole word ≡ true → first_is begins_name word ≡ true → is_name word ≡ true
name_is [] h g = absurd cc
name_is (b ∷ bytes) h g = and_from (begins_name b) (list_all is_word bytes) g (all_after is_word b bytes h)

piece_is : (p : AttributeToken) → of_bytes p ≡ true → is_good p ≡ true → is_right p ≡ true
piece_is (Word word) h g = name_is word h g
piece_is Comma h g = refl
piece_is Open h g = refl
piece_is Close h g = refl

all_are : (ps : List AttributeToken) → list_all of_bytes ps ≡ true → list_all is_good ps ≡ true → list_all is_right ps ≡ true
all_are [] h g = refl
all_are (p ∷ ps) h g = all_more is_right p ps (piece_is p (all_first of_bytes p ps h) (all_first is_good p ps g)) (all_are ps (all_after of_bytes p ps h) (all_after is_good p ps g))

pieces_right : (text : List ℕ) (ps : List AttributeToken) → pieces text ≡ Some ps → list_all is_right ps ≡ true
unfolding pieces
pieces_right text ps e =
    let h = stepped (words_and_marks text) all_good ps e in
    let g = tested_step (list_all is_good h.0) (Some h.0) ps h.2 in
    subst (λ rs. list_all is_right rs ≡ true) (some_is h.0 ps g.1) (all_are h.0 (words_right text h.0 h.1) g.0)

-- ---- names, and the pieces after them

record Named (q : Names) : Type 0 where
  pub names : list_all is_name q.0 ≡ true
  pub some : 1 ≤ length q.0
  pub rest : list_all is_right q.1 ≡ true

one_named : (name : List ℕ) (rest : List AttributeToken) → is_name name ≡ true → list_all is_right rest ≡ true → Named (one_name name rest)
one_named name rest h g = record { names = all_more is_name name [] h refl; some = omega arith; rest = g }

names_right : (ps : List AttributeToken) (q : Names) → list_all is_right ps ≡ true → names_at ps ≡ Some q → Named q
names_right (Word name ∷ []) q all e = subst Named (some_is (one_name name []) q e) (one_named name [] (all_first is_right (Word name) [] all) refl)
names_right (Word name ∷ Comma ∷ rest) q all e =
    let m = mapped (names_at rest) (one_more name) q e in
    let h = names_right rest m.0 (all_after is_right Comma rest (all_after is_right (Word name) (Comma ∷ rest) all)) m.1 in
    subst Named m.2 (record { names = all_more is_name name m.0.0 (all_first is_right (Word name) (Comma ∷ rest) all) h.names; some = omega arith; rest = h.rest })
names_right (Word name ∷ Word other ∷ rest) q all e = subst Named (some_is (one_name name (Word other ∷ rest)) q e) (one_named name (Word other ∷ rest) (all_first is_right (Word name) (Word other ∷ rest) all) (all_after is_right (Word name) (Word other ∷ rest) all))
names_right (Word name ∷ Open ∷ rest) q all e = subst Named (some_is (one_name name (Open ∷ rest)) q e) (one_named name (Open ∷ rest) (all_first is_right (Word name) (Open ∷ rest) all) (all_after is_right (Word name) (Open ∷ rest) all))
names_right (Word name ∷ Close ∷ rest) q all e = subst Named (some_is (one_name name (Close ∷ rest)) q e) (one_named name (Close ∷ rest) (all_first is_right (Word name) (Close ∷ rest) all) (all_after is_right (Word name) (Close ∷ rest) all))
names_right [] q all e = absurd cc
names_right (Comma ∷ rest) q all e = absurd cc
names_right (Open ∷ rest) q all e = absurd cc
names_right (Close ∷ rest) q all e = absurd cc

closed_right : (p : Names) (q : Names) → Named p → closed p.0 p.1 ≡ Some q → Named q
closed_right p q h e = by p.1 refl e where
  by : (rest : List AttributeToken) → p.1 ≡ rest → closed p.0 rest ≡ Some q → Named q
  by (Close ∷ rest) is at =
      let all = subst (λ rs. list_all is_right rs ≡ true) is h.rest in
      subst Named (some_is (p.0, rest) q at) (record { names = h.names; some = h.some; rest = all_after is_right Close rest all })
  by [] is at = absurd cc
  by (Word word ∷ rest) is at = absurd cc
  by (Comma ∷ rest) is at = absurd cc
  by (Open ∷ rest) is at = absurd cc

side_right : (ps : List AttributeToken) (q : Names) → list_all is_right ps ≡ true → side_at ps ≡ Some q → Named q
side_right (Word name ∷ rest) q all e = subst Named (some_is (one_name name rest) q e) (one_named name rest (all_first is_right (Word name) rest all) (all_after is_right (Word name) rest all))
side_right (Open ∷ rest) q all e =
    let h = stepped (names_at rest) (λ names. closed names.0 names.1) q e in
    closed_right h.0 q (names_right rest h.0 (all_after is_right Open rest all) h.1) h.2
side_right [] q all e = absurd cc
side_right (Comma ∷ rest) q all e = absurd cc
side_right (Close ∷ rest) q all e = absurd cc

alone_is : (names : List (List ℕ)) (rest : List AttributeToken) (xs : List (List ℕ)) → alone names rest ≡ Some xs → names ≡ xs
alone_is names [] xs e = some_is names xs e
alone_is names (p ∷ rest) xs e = absurd cc

from_is : (least : ℕ) (xs : List (List ℕ)) → least ≤ length xs → list_all is_name xs ≡ true → names_from least xs ≡ true
from_is least xs many all = and_from (nat_le least (length xs)) (list_all is_name xs) (le-leb least (length xs) many) all

-- names alone, from a step that gives some
alone_right : (o : Option Names) (xs : List (List ℕ)) → ((q : Names) → o ≡ Some q → Named q) → option_and_then (λ names. alone names.0 names.1) o ≡ Some xs → names_from 1 xs ≡ true
alone_right o xs right e =
    let h = stepped o (λ names. alone names.0 names.1) xs e in
    let g = right h.0 h.1 in
    subst (λ ys. names_from 1 ys ≡ true) (alone_is h.0.0 h.0.1 xs h.2) (from_is 1 h.0.0 g.some g.names)

two_right : (names xs : List (List ℕ)) → names_from 1 names ≡ true → two_or_more names ≡ Some xs → names_from 2 xs ≡ true
two_right [] xs h e = absurd cc
two_right (first ∷ []) xs h e = absurd cc
two_right (first ∷ second ∷ names) xs h e =
    subst (λ ys. names_from 2 ys ≡ true) (some_is (first ∷ second ∷ names) xs e)
    (from_is 2 (first ∷ second ∷ names) (omega arith) (and_parts (nat_le 1 (length (first ∷ second ∷ names))) (list_all is_name (first ∷ second ∷ names)) h).1)

listed_right : (text : List ℕ) (xs : List (List ℕ)) → listed text ≡ Some xs → names_from 2 xs ≡ true
unfolding listed
listed_right text xs e =
    let h = stepped (option_and_then (λ names. alone names.0 names.1) (option_and_then names_at (pieces text))) two_or_more xs e in
    let right : (q : Names) → option_and_then names_at (pieces text) ≡ Some q → Named q = λ q is. let p = stepped (pieces text) names_at q is in names_right p.0 q (pieces_right text p.0 p.1) p.2 in
    two_right h.0 xs (alone_right (option_and_then names_at (pieces text)) h.0 right h.1) h.2

sides_after : (left : List (List ℕ)) (rest : List AttributeToken) (q : Sides) → names_from 1 left ≡ true → list_all is_right rest ≡ true → sides_from left rest ≡ Some q → (names_from 1 q.0 && names_from 1 q.1) ≡ true
sides_after left (Comma ∷ rest) q h all e =
    let m = mapped (option_and_then (λ names. alone names.0 names.1) (side_at rest)) (with_left left) q e in
    let right = alone_right (side_at rest) m.0 (λ p is. side_right rest p (all_after is_right Comma rest all) is) m.1 in
    subst (λ (p : Sides). (names_from 1 p.0 && names_from 1 p.1) ≡ true) m.2 (and_from (names_from 1 left) (names_from 1 m.0) h right)
sides_after left [] q h all e = absurd cc
sides_after left (Word word ∷ rest) q h all e = absurd cc
sides_after left (Open ∷ rest) q h all e = absurd cc
sides_after left (Close ∷ rest) q h all e = absurd cc

sides_right : (text : List ℕ) (q : Sides) → sides text ≡ Some q → (names_from 1 q.0 && names_from 1 q.1) ≡ true
unfolding sides
sides_right text q e =
    let h = stepped (option_and_then side_at (pieces text)) (λ names. sides_from names.0 names.1) q e in
    let p = stepped (pieces text) side_at h.0 h.1 in
    let left = side_right p.0 h.0 (pieces_right text p.0 p.1) p.2 in
    sides_after h.0.0 h.0.1 q (from_is 1 h.0.0 left.some left.names) left.rest h.2

-- ---- what attributes ask for

-- an attribute that this owner may have
abbrev pub of_owner : Owner → Attribute → Bool
of_owner owner.Module = of_module
of_owner owner.Rule = of_rule

text_right : (name text : List ℕ) (a : Attribute) → with_text name text ≡ Some a → orders_rules a ≡ true
text_right name text a e = by (bytes_eq name (codes "descending_urgency")) (bytes_eq name (codes "execution_order")) (bytes_eq name (codes "preempts")) e where
  by : (x y z : Bool) → cond x (option_map asks.DescendingUrgency (listed text)) (cond y (option_map asks.ExecutionOrder (listed text)) (cond z (option_map preempts (sides text)) None)) ≡ Some a → orders_rules a ≡ true
  by true y z is = let m = mapped (listed text) asks.DescendingUrgency a is in subst (λ b. orders_rules b ≡ true) m.2 (listed_right text m.0 m.1)
  by false true z is = let m = mapped (listed text) asks.ExecutionOrder a is in subst (λ b. orders_rules b ≡ true) m.2 (listed_right text m.0 m.1)
  by false false true is = let m = mapped (sides text) preempts a is in subst (λ b. orders_rules b ≡ true) m.2 (sides_right text m.0 m.1)
  by false false false is = absurd cc

owned : (o : Owner) (a : Attribute) → orders_rules a ≡ true → of_owner o a ≡ true
owned owner.Module asks.Synthesize e = refl
owned owner.Module _ e = e
owned owner.Rule asks.FireWhenEnabled e = refl
owned owner.Rule asks.NoImplicitConditions e = refl
owned owner.Rule _ e = e

plain_right : (o : Owner) (name : List ℕ) (a : Attribute) → without_text o name ≡ Some a → of_owner o a ≡ true
plain_right owner.Module name a e =
    let h = tested_step (bytes_eq name (codes "synthesize")) (Some asks.Synthesize) a e in
    subst (λ b. of_module b ≡ true) (some_is asks.Synthesize a h.1) refl
plain_right owner.Rule name a e = by (bytes_eq name (codes "fire_when_enabled")) (bytes_eq name (codes "no_implicit_conditions")) e where
  by : (x y : Bool) → cond x (Some asks.FireWhenEnabled) (cond y (Some asks.NoImplicitConditions) None) ≡ Some a → of_rule a ≡ true
  by true y is = subst (λ b. of_rule b ≡ true) (some_is asks.FireWhenEnabled a is) refl
  by false true is = subst (λ b. of_rule b ≡ true) (some_is asks.NoImplicitConditions a is) refl
  by false false is = absurd cc

meaning_right : (o : Owner) (name : List ℕ) (text : Option (List ℕ)) (a : Attribute) → meaning o name text ≡ Some a → of_owner o a ≡ true
meaning_right o name None a e = plain_right o name a e
meaning_right o name (Some text) a e = owned o a (text_right name text a e)

attribute_right : (o : Owner) (x : Written) (a : Attribute) → attribute o x ≡ Some a → of_owner o a ≡ true
unfolding attribute
attribute_right o x a e = meaning_right o x.name.name x.text a e

group_right : (s : Span) (o : Owner) (ws : List Written) (xs : List Attribute) → asked_by s o ws ≡ Ok xs → list_all (of_owner o) xs ≡ true
group_right s o [] xs e = subst (λ ys. list_all (of_owner o) ys ≡ true) (ok_is [] xs e) refl
group_right s o (a ∷ rest) xs e =
    let x = there_is s (attribute o a) _ xs e in
    let more = went (asked_by s o rest) _ xs x.2 in
    subst (λ ys. list_all (of_owner o) ys ≡ true) (ok_is (x.0 ∷ more.0) xs more.2) (all_more (of_owner o) x.0 more.0 (attribute_right o a x.0 x.1) (group_right s o rest more.0 more.1))

pub asked_right : (s : Span) (o : Owner) (gs : List AttributeGroup) (xs : List Attribute) → asked s o gs ≡ Ok xs → list_all (of_owner o) xs ≡ true
asked_right s o [] xs e = subst (λ ys. list_all (of_owner o) ys ≡ true) (ok_is [] xs e) refl
asked_right s o (g ∷ gs) xs e =
    let x = went (asked_by s o g.attributes) _ xs e in
    let more = went (asked s o gs) _ xs x.2 in
    subst (λ ys. list_all (of_owner o) ys ≡ true) (ok_is (x.0 ++ more.0) xs more.2) (all_joined (of_owner o) x.0 more.0 (group_right s o g.attributes x.0 x.1) (asked_right s o gs more.0 more.1))
