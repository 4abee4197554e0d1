-- A text is split in one way, and that is how it is read.
use Rattle.std.proofs.Common.{◌≡◌, ℕ, zero, suc, ◌+◌, ◌-◌, ◌≤◌, ◌<◌, ◌⊎◌, inl, inr, List, [], ◌∷◌, ◌++◌, length, take, drop, Option, Some, None, Result, Ok, Err, refl, sym, ap, subst, ◌∙◌, append_assoc, arith, length-append}
use Rattle.std.specs.Prelude.{IfOk, IfErr, ◌≢◌}
use Rattle.std.specs.Global.{Vec}
use Rattle.std.specs.List.{All, slice_range}
use Rattle.std.proofs.lemmas.List.{append-nil, drop_at, take_at}
use Rattle.std.proofs.lemmas.List.Elements.{All-nil, All-cons}
use Rattle.bsv_lex.specs.declared.token.TokenKind.{TokenKind}
use Rattle.bsv_lex.specs.declared.token.Token.{Token}
use Rattle.bsv_lex.specs.declared.token.LexFault.{LexFault}
use Rattle.bsv_lex.specs.declared.token.LexFault.TheVariants as fault
use Rattle.bsv_lex.specs.declared.piece.Lexed.{Lexed}
use Rattle.bsv_lex.specs.declared.piece.Lexed.TheVariants as piece
use Rattle.bsv_lex.specs.Tokens.{Gives, fault_at}
use Rattle.bsv_lex.specs.Reading.{piece_at, with_piece, and_then, tokens_from, tokens_of}
use Rattle.bsv_lex.specs.Tokens as t
use Rattle.bsv_lex.specs.Tokens.{IsNumber, Stands, Splits, Tokens, FirstFault, IsTokenOf, IsOfKind, token_at}
use Rattle.bsv_lex.proofs.TokenKinds.{kind_right}
use Rattle.bsv_lex.proofs.Places.{Found, found, place_read, place_found}

number_some : (text rest : List ℕ) → IsNumber text rest → 0 < length text
number_some text rest (t.IsNumber.decimal is run none) = omega arith
number_some text rest (t.IsNumber.based size digits letter good is run) = omega (arith, length-append size (39 ∷ letter ∷ digits))

-- what is at a place has a byte
pub some_bytes : (what : Lexed) (text rest : List ℕ) → Stands what text rest → 0 < length text
some_bytes what text rest (t.Stands.blank is) = omega arith
some_bytes what text rest (t.Stands.line run) = omega arith
some_bytes what text rest (t.Stands.comment inner none) = omega arith
some_bytes what text rest (t.Stands.open_comment none) = omega arith
some_bytes what text rest (t.Stands.name is run) = omega arith
some_bytes what text rest (t.Stands.number is) = number_some text rest is
some_bytes what text rest (t.Stands.quoted inner each) = omega arith
some_bytes what text rest (t.Stands.open_text run none) = omega arith
some_bytes what text rest (t.Stands.pair is) = omega arith
some_bytes what text rest (t.Stands.single is none) = omega arith
some_bytes what text rest (t.Stands.bad_byte is) = omega arith

fewer : (n : ℕ) (what : Lexed) (bytes text rest : List ℕ) → bytes ≡ text ++ rest → Stands what text rest → length bytes ≤ suc n → length rest ≤ n
fewer n what bytes text rest parts stands le = omega (arith, some_bytes what text rest stands, ap length parts, length-append text rest)

no_turn : (what : Lexed) (bytes text rest : List ℕ) → bytes ≡ text ++ rest → Stands what text rest → length bytes ≤ 0 → ⊥
no_turn what bytes text rest parts stands le = omega (arith, some_bytes what text rest stands, ap length parts, length-append text rest)

-- ---- each text is split

data Split (at : ℕ) (bytes : List ℕ) : Type 0 where
  split : (ts : List Token) (o : Option LexFault) → Splits at bytes ts o → Split at bytes

split_by : (at : ℕ) (bytes text rest : List ℕ) (what : Lexed) → bytes ≡ text ++ rest → Stands what text rest → Split (at + length text) rest → Split at bytes
split_by at bytes text rest piece.Gap parts stands (split ts o more) = split ts o (t.Splits.gap text rest parts stands more)
split_by at bytes text rest (piece.Token k) parts stands (split ts o more) = split (token_at k at text ∷ ts) o (t.Splits.token text rest parts stands more)
split_by at bytes text rest (piece.Fault f) parts stands more = split [] (Some (fault_at f at)) (t.Splits.broken text rest parts stands)

split_found : (n at : ℕ) (bytes : List ℕ) → length bytes ≤ suc n → ((at : ℕ) (rest : List ℕ) → length rest ≤ n → Split at rest) → Found bytes → Split at bytes
split_found n at bytes le go (found what text rest parts stands) = split_by at bytes text rest what parts stands (go (at + length text) rest (fewer n what bytes text rest parts stands le))

split_all : (n at : ℕ) (bytes : List ℕ) → length bytes ≤ n → Split at bytes
split_all zero at [] le = split [] None t.Splits.end
split_all (suc n) at [] le = split [] None t.Splits.end
split_all zero at (b ∷ bytes) le = absurd (omega arith)
split_all (suc n) at (b ∷ bytes) le = split_found n at (b ∷ bytes) le (split_all n) (place_found b bytes)

-- ---- a text that is split is read so

-- the answer for these tokens, and then the end or a fault
abbrev pub answer : List Token → Option LexFault → Result (List Token) LexFault
answer ts None = Ok ts
answer ts (Some f) = Err f

step : (n : ℕ) (out : List Token) (at : ℕ) (bytes text rest : List ℕ) (what : Lexed) → bytes ≡ text ++ rest → Stands what text rest
    → tokens_from (suc n) out at bytes ≡ and_then (with_piece what at (length text) out) (λ more. tokens_from n more (at + length text) rest)
unfolding tokens_from
step n out at bytes text rest what parts stands =
    let read : piece_at bytes ≡ Some (what, length text) = ap piece_at parts ∙ place_read what text rest stands in
    let left : drop (length text) bytes ≡ rest = ap (drop (length text)) parts ∙ drop_at text rest (length text) refl in
    rw read (ap (λ (bs : List ℕ). and_then (with_piece what at (length text) out) (λ more. tokens_from n more (at + length text) bs)) left)

tokens_from-read : (n : ℕ) (out : List Token) (at : ℕ) (bytes : List ℕ) (ts : List Token) (o : Option LexFault) → Splits at bytes ts o → length bytes ≤ n → tokens_from n out at bytes ≡ answer (out ++ ts) o
unfolding tokens_from piece_at
tokens_from-read zero out at [] [] o t.Splits.end le = ap Ok (sym (append-nil out))
tokens_from-read (suc n) out at [] [] o t.Splits.end le = ap Ok (sym (append-nil out))
tokens_from-read zero out at bytes ts o (t.Splits.gap text rest parts stands more) le = absurd (no_turn _ bytes text rest parts stands le)
tokens_from-read (suc n) out at bytes ts o (t.Splits.gap text rest parts stands more) le =
    step n out at bytes text rest piece.Gap parts stands ∙ tokens_from-read n out (at + length text) rest ts o more (fewer n _ bytes text rest parts stands le)
tokens_from-read zero out at bytes (x ∷ ts) o (t.Splits.token text rest parts stands more) le = absurd (no_turn _ bytes text rest parts stands le)
tokens_from-read (suc n) out at bytes (x ∷ ts) o (t.Splits.token {k = k} text rest parts stands more) le =
    step n out at bytes text rest (piece.Token k) parts stands
    ∙ tokens_from-read n (out ++ x ∷ []) (at + length text) rest ts o more (fewer n _ bytes text rest parts stands le)
    ∙ ap (λ (list : List Token). answer list o) (append_assoc out (x ∷ []) ts)
tokens_from-read zero out at bytes [] o (t.Splits.broken text rest parts stands) le = absurd (no_turn _ bytes text rest parts stands le)
tokens_from-read (suc n) out at bytes [] o (t.Splits.broken {f = f} text rest parts stands) le = step n out at bytes text rest (piece.Fault f) parts stands

pub tokens_of-read : (bytes : List ℕ) (ts : List Token) (o : Option LexFault) → Splits 0 bytes ts o → tokens_of bytes ≡ answer ts o
unfolding tokens_of
tokens_of-read bytes ts o is = tokens_from-read (length bytes) [] 0 bytes ts o is (omega arith)

-- ---- and what is read is how the text is split

ok_is : (x y : List Token) → ◌≡◌ {A = Result (List Token) LexFault} (Ok x) (Ok y) → x ≡ y
ok_is x y e = cc

err_is : (x y : LexFault) → ◌≡◌ {A = Result (List Token) LexFault} (Err x) (Err y) → x ≡ y
err_is x y e = cc

ok_split : (bytes : List ℕ) (list : List Token) → tokens_of bytes ≡ Ok list → Split 0 bytes → Tokens bytes list
ok_split bytes list e (split ts None is) = subst (Tokens bytes) (ok_is ts list (sym (tokens_of-read bytes ts None is) ∙ e)) is
ok_split bytes list e (split ts (Some f) is) = absurd (let read = tokens_of-read bytes ts (Some f) is in cc)

err_split : (bytes : List ℕ) (f : LexFault) → tokens_of bytes ≡ Err f → Split 0 bytes → FirstFault bytes f
err_split bytes f e (split ts None is) = absurd (let read = tokens_of-read bytes ts None is in cc)
err_split bytes f e (split ts (Some g) is) = (ts, subst (λ (h : LexFault). Splits 0 bytes ts (Some h)) (err_is g f (sym (tokens_of-read bytes ts (Some g) is) ∙ e)) is)

whole_split : (bytes : List ℕ) → Split 0 bytes
whole_split bytes = split_all (length bytes) 0 bytes (omega arith)

pub is_found : (bytes : List ℕ) (r : Result (Vec Token) LexFault) → Gives (λ v. v.items) r (tokens_of bytes) → IfOk r (λ v. Tokens bytes v.items)
is_found bytes (Ok v) e = ok_split bytes v.items e (whole_split bytes)
is_found bytes (Err f) e = tt

pub is_faulty : (bytes : List ℕ) (r : Result (Vec Token) LexFault) → Gives (λ v. v.items) r (tokens_of bytes) → IfErr r (λ f. f ≢ fault.OutOfMemory → FirstFault bytes f)
is_faulty bytes (Ok v) e = tt
is_faulty bytes (Err fault.OutOfMemory) e = λ other. absurd (other refl)
is_faulty bytes (Err (fault.BadByte at)) e = λ other. err_split bytes (fault.BadByte at) e (whole_split bytes)
is_faulty bytes (Err (fault.OpenComment at)) e = λ other. err_split bytes (fault.OpenComment at) e (whole_split bytes)
is_faulty bytes (Err (fault.BadLiteral at)) e = λ other. err_split bytes (fault.BadLiteral at) e (whole_split bytes)
is_faulty bytes (Err (fault.TooLong at)) e = λ other. err_split bytes (fault.TooLong at) e (whole_split bytes)

pub is_only : (bytes : List ℕ) (r : Result (Vec Token) LexFault) → Gives (λ v. v.items) r (tokens_of bytes) → (ts : List Token) (o : Option LexFault) → Splits 0 bytes ts o → Gives (λ v. v.items) r (answer ts o)
is_only bytes r e ts o is = subst (Gives (λ v. v.items) r) (tokens_of-read bytes ts o is) e

-- ---- one answer

pub one_list : (bytes : List ℕ) (x y : List Token) → Tokens bytes x → Tokens bytes y → x ≡ y
one_list bytes x y a b = ok_is x y (sym (tokens_of-read bytes x None a) ∙ tokens_of-read bytes y None b)

pub one_fault : (bytes : List ℕ) (f g : LexFault) → FirstFault bytes f → FirstFault bytes g → f ≡ g
one_fault bytes f g a b = err_is f g (sym (tokens_of-read bytes a.0 (Some f) a.1) ∙ tokens_of-read bytes b.0 (Some g) b.1)

pub not_both : (bytes : List ℕ) (x : List Token) (f : LexFault) → Tokens bytes x → FirstFault bytes f → ⊥
not_both bytes x f a b = let read = tokens_of-read bytes x None a in let fails = tokens_of-read bytes b.0 (Some f) b.1 in cc

abbrev pub ListOrFault : List ℕ → Type 0
ListOrFault bytes = ((list : List Token) × Tokens bytes list) ⊎ ((f : LexFault) × FirstFault bytes f)

one_of : (bytes : List ℕ) → Split 0 bytes → ListOrFault bytes
one_of bytes (split ts None is) = inl (ts, is)
one_of bytes (split ts (Some f) is) = inr (f, (ts, is))

pub one_each : (bytes : List ℕ) → ListOrFault bytes
one_each bytes = one_of bytes (whole_split bytes)

-- ---- each token is its slice

slice_is : (before text rest : List ℕ) → slice_range (before ++ text ++ rest) (length before) (length before + length text) ≡ text
slice_is before text rest =
    let len : length before + length text - length before ≡ length text = omega arith in
    let parts : before ++ text ++ rest ≡ before ++ (text ++ rest) = append_assoc before text rest in
    ap (λ n. take n (drop (length before) (before ++ text ++ rest))) len
    ∙ ap (λ (bs : List ℕ). take (length text) (drop (length before) bs)) parts
    ∙ ap (take (length text)) (drop_at before (text ++ rest) (length before) refl)
    ∙ take_at text rest (length text) refl

after_is : (before text rest : List ℕ) → drop (length before + length text) (before ++ text ++ rest) ≡ rest
after_is before text rest = drop_at (before ++ text) rest (length before + length text) (length-append before text)

token_of : (k : TokenKind) (before text rest : List ℕ) → Stands (piece.Token k) text rest → IsTokenOf (before ++ text ++ rest) (token_at k (length before) text)
token_of k before text rest stands = record {
  some = omega (arith, some_bytes (piece.Token k) text rest stands);
  within = omega (arith, length-append (before ++ text) rest, length-append before text);
  stands = subst (λ (bs : List ℕ). Stands (piece.Token k) (slice_range (before ++ text ++ rest) (length before) (length before + length text)) bs) (sym (after_is before text rest)) (subst (λ (bs : List ℕ). Stands (piece.Token k) bs rest) (sym (slice_is before text rest)) stands);
  kind = subst (IsOfKind k) (sym (slice_is before text rest)) (kind_right (piece.Token k) k text rest stands refl);
}

each_slice : (source before : List ℕ) (at : ℕ) (bytes : List ℕ) (ts : List Token) (o : Option LexFault) → source ≡ before ++ bytes → length before ≡ at → Splits at bytes ts o → All (IsTokenOf source) ts
each_slice source before at [] [] o whole len t.Splits.end = All-nil (IsTokenOf source)
each_slice source before at bytes ts o whole len (t.Splits.gap text rest parts stands more) =
    let all : source ≡ before ++ text ++ rest = whole ∙ ap (λ (bs : List ℕ). before ++ bs) parts ∙ sym (append_assoc before text rest) in
    each_slice source (before ++ text) (at + length text) rest ts o all (length-append before text ∙ ap (λ n. n + length text) len) more
each_slice source before at bytes (x ∷ ts) o whole len (t.Splits.token {k = k} text rest parts stands more) =
    let all : source ≡ before ++ text ++ rest = whole ∙ ap (λ (bs : List ℕ). before ++ bs) parts ∙ sym (append_assoc before text rest) in
    let here : IsTokenOf source (token_at k (length before) text) = subst (λ (bs : List ℕ). IsTokenOf bs (token_at k (length before) text)) (sym all) (token_of k before text rest stands) in
    All-cons (IsTokenOf source) (token_at k at text) ts
    (subst (λ (n : ℕ). IsTokenOf source (token_at k n text)) len here)
    (each_slice source (before ++ text) (at + length text) rest ts o all (length-append before text ∙ ap (λ n. n + length text) len) more)
each_slice source before at bytes [] o whole len (t.Splits.broken text rest parts stands) = All-nil (IsTokenOf source)

pub slices_of : (bytes : List ℕ) (list : List Token) → Tokens bytes list → All (IsTokenOf bytes) list
slices_of bytes list is = each_slice bytes [] 0 bytes list None refl refl is

pub is_sliced : (bytes : List ℕ) (r : Result (Vec Token) LexFault) → Gives (λ v. v.items) r (tokens_of bytes) → IfOk r (λ v. All (IsTokenOf bytes) v.items)
is_sliced bytes (Ok v) e = slices_of bytes v.items (is_found bytes (Ok v) e)
is_sliced bytes (Err f) e = tt
