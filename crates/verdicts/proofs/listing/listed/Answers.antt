use Rattle.std.proofs.Common.{◌≡◌, ◌↔◌, vec_items, sym, ◌∙◌}
use Rattle.std.proofs.lemmas.Result.{IfOk-weaker}
use Rattle.verdicts.specs.Listings.{listing}
use Rattle.verdicts.specs.Marks.{accepted_line, AcceptableText}
use Rattle.verdicts.proofs.Marked.{marked}
use Rattle.verdicts.proofs.listing.listed.Goals as goal

pub returns : goal.returns
returns g c =
    let a = g.G.Algebra in
    let reading = g.G.Written.reading in
    let text = c.args.text.now in
    let verdict = rw (c.in_ok-session.ensures, c.deref_mut.ensures.value, c.in_ok-grades.ensures, c.deref_mut-2.ensures.value, c.in_ok-work.ensures) at c.verdict_on-verdict.ensures in
    let prints = rw verdict at c.verdict_printed.ensures in
    let means = marked a g.met.G.Algebra.kept reading text in
    record {
      prints = prints;
      accepts = IfOk-weaker c.verdict_printed.result (λ v. vec_items v ≡ listing a reading text) (λ v. (vec_items v ≡ accepted_line) ↔ AcceptableText a reading text) (λ v h. (λ e. means.0 (sym h ∙ e), λ t. h ∙ means.1 t)) prints;
    }
