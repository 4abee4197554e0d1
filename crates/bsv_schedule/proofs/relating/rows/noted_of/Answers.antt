use Rattle.std.proofs.Common.{◌≡◌, ◌≤◌, Some, slice_get, length, map, refl, arith}
use Rattle.std.proofs.lemmas.List.{length-map}
use Rattle.std.proofs.lemmas.Option.{slice_get_read, slice_get_past}
use Rattle.bsv_lemmas.proofs.Places.{mapped_at}
use Rattle.bsv_schedule.proofs.Noted.{noted_each, names_part}
use Rattle.bsv_schedule.proofs.relating.rows.noted_of.Goals as goal

pub returns-in-Some : goal.returns-in-Some
returns-in-Some c =
    let parts = c.args.parts.now in
    let l = c.in-Some.ensures.lookup in
    let there : slice_get parts c.args.own.part ≡ Some c.in-Some.named.now = slice_get_read parts _ c.args.own.part c.in-Some.named.now refl l.3.0 l.1 in
    noted_each (λ v. v.items) c.args.relation (map (λ p. p.kind) parts) c.args.own c.in-Some.named.now.kind c.related_methods.result
    (mapped_at (λ p. p.kind) parts c.args.own.part c.in-Some.named.now there) c.related_methods.ensures.count c.related_methods.ensures.each

pub returns-in-None : goal.returns-in-None
returns-in-None c = λ m named.
    let parts = c.args.parts.now in
    let beyond : length parts ≤ c.args.own.part = c.in-None.ensures.lookup.3 in
    let past : length (map (λ p. p.kind) parts) ≤ c.args.own.part = omega (arith, length-map parts (λ p. p.kind), beyond) in
    absurd (names_part (map (λ p. p.kind) parts) c.args.own.part c.args.own.method (slice_get_past (map (λ p. p.kind) parts) c.args.own.part past) c.requires.own)
