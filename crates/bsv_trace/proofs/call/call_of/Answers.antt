use Rattle.std.proofs.Common.{◌≡◌, ◌∙◌, length, map, Some, sym, ap, subst, true, false}
use Rattle.std.proofs.Common.{List, Bool, get_or, slice_set}
use Rattle.bsv_design.specs.declared.element.Element.{Element}
use Rattle.bsv_design.specs.declared.element.Port.{Port}
use Rattle.bsv_design.specs.scheme.Schemes.{outline}
use Rattle.bsv_design.specs.scheme.Seen.{asking}
use Rattle.bsv_trace.specs.Reading as spec
use Rattle.bsv_trace.proofs.Places.{flag_at, outline_at, args_at, words_at, with_words, with_call, call_of-asked, call_of-read}
use Rattle.bsv_trace.proofs.call.call_of.Goals as goal

pub returns-then-as_slice-number-clause-read : goal.returns-then-as_slice-number-clause-read
returns-then-as_slice-number-clause-read c =
    let q = asking c.args.requests.now in
    let ms = c.args.methods.now in
    call_of-asked (map outline ms) c.args.number c.args.bytes.now q
    (flag_at ms c.args.number c.requires.within q true c.requires.places (ap (λ (l : List Bool). get_or l c.args.number false) (sym c.as_slice.ensures) ∙ c.if-as_slice-number.true))

pub arguments-requires : goal.arguments-requires
arguments-requires c =
    let q = asking c.args.requests.now in
    let ms = c.args.methods.now in
    let e = c.index-methods-number.result in
    let words = c.index_mut.result.now in
    words_at (map outline ms) q c.requires.places c.args.number (outline e) words
    (outline_at ms c.args.number c.requires.within e c.index-methods-number.is)
    (args_at ms c.args.number c.requires.within q words c.requires.places c.index_mut.ensures.value)
    ∙ ap (λ (x : Element). length x.arguments) c.index-methods-number.is ∙ sym (ap (λ (l : List Port). length l) c.as_slice-ports.ensures)

pub returns-in-None-clause-places : goal.returns-in-None-clause-places
returns-in-None-clause-places c =
    let q = asking c.args.requests.now in
    let ms = c.args.methods.now in
    let old = c.index_mut.result.now in
    with_words (map outline ms) q c.requires.places c.args.number old c.arguments.new.words
    (args_at ms c.args.number c.requires.within q old c.requires.places c.index_mut.ensures.value)
    c.in-None.ensures.length

pub returns-in-Some-clause-places : goal.returns-in-Some-clause-places
returns-in-Some-clause-places c =
    let q = asking c.args.requests.now in
    let ms = c.args.methods.now in
    let old = c.index_mut.result.now in
    let words = c.arguments.new.words in
    subst (λ (l : List Bool). spec.HasPlaces (map outline ms) (record { asked = l; args = slice_set q.args c.args.number words })) (sym c.set.ensures)
    (with_call (map outline ms) q c.requires.places c.args.number old words
    (args_at ms c.args.number c.requires.within q old c.requires.places c.index_mut.ensures.value)
    c.in-Some.ensures.length)

pub returns-in-Some-clause-read : goal.returns-in-Some-clause-read
returns-in-Some-clause-read c =
    let q = asking c.args.requests.now in
    let ms = c.args.methods.now in
    let e = c.index-methods-number.result in
    let old = c.index_mut.result.now in
    let words = c.arguments.new.words in
    let rest = c.in-Some.rest.now in
    let ports : c.as_slice-ports.result.now ≡ e.arguments = c.as_slice-ports.ensures ∙ sym (ap (λ (x : Element). x.arguments) c.index-methods-number.is) in
    call_of-read (map outline ms) c.args.number c.args.bytes.now q (outline e) old (Some (words, rest))
    (flag_at ms c.args.number c.requires.within q false c.requires.places (ap (λ (l : List Bool). get_or l c.args.number false) (sym c.as_slice.ensures) ∙ c.if-as_slice-number.false))
    (outline_at ms c.args.number c.requires.within e c.index-methods-number.is)
    (args_at ms c.args.number c.requires.within q old c.requires.places c.index_mut.ensures.value)
    (ap (λ (ps : List Port). spec.arguments ps c.args.bytes.now old) (sym ports) ∙ c.in-Some.ensures.read)
    ∙ ap (λ (l : List Bool). Some (record { asked = l; args = slice_set q.args c.args.number words }, rest)) (sym c.set.ensures)
