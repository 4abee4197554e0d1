use Rattle.std.proofs.Common.{Err, subst, sym, arith}
use Rattle.bsv_flow.specs.Yields.{Yields}
use Rattle.bsv_flow.specs.declared.refusal.CompileFault.TheVariants as fault
use Rattle.bsv_flow.proofs.Parsed.{same_fault, refused_by_token, found_by_tree, refused_by_tree}
use Rattle.bsv_flow.proofs.parse.package_of.Goals as goal

pub returns-then-source-gt-MAX_BYTES-clause-refused : goal.returns-then-source-gt-MAX_BYTES-clause-refused
returns-then-source-gt-MAX_BYTES-clause-refused c =
    λ r e.
    subst (λ q. Yields c.args.file.now c.args.source.now (Err q)) (sym (c.too_large.ensures.refused r (same_fault c.too_large.result (fault.Refused r) e))) (Yields.too_large c.if-source-gt-MAX_BYTES.true)

pub returns-in-Err-clause-refused : goal.returns-in-Err-clause-refused
returns-in-Err-clause-refused c =
    λ r e.
    let told = c.token_fault.ensures in
    refused_by_token c.args.file.now c.args.source.now (omega (arith, c.if-source-gt-MAX_BYTES.false)) c.in-Err.fault c.token_fault.result r c.in-Err.ensures.faulty
    told.bad_byte told.open_comment told.bad_literal told.too_long told.no_memory (same_fault c.token_fault.result (fault.Refused r) e)

pub returns-in-Ok-package-clause-found : goal.returns-in-Ok-package-clause-found
returns-in-Ok-package-clause-found c =
    found_by_tree c.args.file.now c.args.source.now (omega (arith, c.if-source-gt-MAX_BYTES.false)) c.in-Ok.tokens.items c.as_slice.result.now c.as_slice.ensures.value c.in-Ok.ensures.found
    c.in-Ok-package.found c.in-Ok-package.ensures.shallow c.in-Ok-package.ensures.found

pub returns-clause-refused : goal.returns-clause-refused
returns-clause-refused c =
    λ r e.
    let told = c.tree_fault.ensures in
    let parsed = c.in-Err-package.ensures in
    refused_by_tree c.args.file.now c.args.source.now (omega (arith, c.if-source-gt-MAX_BYTES.false)) c.in-Ok.tokens.items c.as_slice.result.now c.as_slice.ensures.value c.in-Ok.ensures.found
    c.in-Err-package.fault c.tree_fault.result r parsed.deep parsed.syntax parsed.syntax_shallow told.syntax told.too_deep told.no_memory (same_fault c.tree_fault.result (fault.Refused r) e)
