-- Arms are joined from the last one on.
use Rattle.std.proofs.Common.{◌≡◌, ◌∙◌, List, [], ◌∷◌, ◌++◌, refl, sym, ap, ap₂, append_assoc, append-nil}
use Rattle.bsv_body.specs.declared.calls.Call.{Call}
use Rattle.bsv_body.specs.declared.calls.Condition.{Condition}
use Rattle.bsv_body.specs.declared.choices.Given.{Given}
use Rattle.bsv_body.specs.declared.choices.Head.{Head}
use Rattle.bsv_body.specs.declared.choices.Joining.{Joining}
use Rattle.bsv_body.specs.declared.state.Asked.{Asked}
use Rattle.bsv_body.specs.declared.state.State.{State}
use Rattle.bsv_body.specs.Flat.{nothing, both, picks, join_one, join_all, join_before, in_text_order, joined}

pub joined_last : (hs : List Head) (h : Head) (d : Given × State) → join_all (hs ++ h ∷ []) d ≡ join_all hs (join_one h d)
unfolding join_all
joined_last [] h d = refl
joined_last (x ∷ hs) h d = ap (join_one x) (joined_last hs h d)

pub joined_none : (d : Given × State) → join_all [] d ≡ d
unfolding join_all
joined_none d = refl

-- ---- what arms ask

asked_of : List Call → List Condition → Asked
asked_of calls conditions = record { calls = calls; conditions = conditions }

pub both_twice : (a b c : Asked) → both (both a b) c ≡ both a (both b c)
unfolding asked_of
both_twice a b c = ap₂ asked_of (append_assoc a.calls b.calls c.calls) (append_assoc a.conditions b.conditions c.conditions)

pub both_none : (a : Asked) → both a nothing ≡ a
unfolding asked_of
both_none a = ap₂ asked_of (append-nil a.calls) (append-nil a.conditions)

-- the one that was added last is the first one
pub order_last : (parts : List Asked) (part : Asked) → in_text_order (parts ++ part ∷ []) ≡ both part (in_text_order parts)
order_last [] part = sym (both_none part)
order_last (a ∷ others) part = ap (λ (x : Asked). both x a) (order_last others part) ∙ both_twice part (in_text_order others) a

pub order_more : (parts rest : List Asked) (part asked more : Asked) → parts ≡ rest ++ part ∷ [] → more ≡ both asked part
    → both asked (in_text_order parts) ≡ both more (in_text_order rest)
order_more parts rest part asked more last added =
    ap (λ (ps : List Asked). both asked (in_text_order ps)) last
    ∙ ap (both asked) (order_last rest part)
    ∙ sym (both_twice asked part (in_text_order rest))
    ∙ ap (λ (x : Asked). both x (in_text_order rest)) (sym added)

-- ---- arms

before_is : (h : Head) (j : Joining) (s : State) → let r = join_before h (j, s) in let one : Given × State = (joined r.0, r.1) in join_one h (joined j, s) ≡ one
before_is h j s =
    let g = picks h.test h.body.given j.given s in
    ap (λ (x : Asked). let d : Given = record { given = g.0; asked = x } in let one : Given × State = (d, g.1) in one)
    (sym (order_last (j.parts ++ h.body.asked ∷ []) h.asked ∙ ap (both h.asked) (order_last j.parts h.body.asked)))

pub joins_more : (hs rest : List Head) (h : Head) (j more : Joining) (s after : State) → hs ≡ rest ++ h ∷ [] → join_before h (j, s) ≡ (more, after)
    → join_all hs (joined j, s) ≡ join_all rest (joined more, after)
joins_more hs rest h j more s after last is =
    ap (λ (xs : List Head). join_all xs (joined j, s)) last
    ∙ joined_last rest h (joined j, s)
    ∙ ap (join_all rest) (before_is h j s)
    ∙ ap (λ (r : Joining × State). join_all rest (joined r.0, r.1)) is
