use Rattle.std.proofs.Common.{◌≡◌, length, vec_items, [], ◌∷◌, ◌++◌, sym, ◌∙◌, rules, tests}
use Rattle.std.proofs.lemmas.List.{length_push}
use Rattle.std.proofs.lemmas.Iterator.Consumers.{YieldsList-at, YieldsList-from_filter, YieldsList-turn, YieldsList-end}
use Rattle.std.proofs.lemmas.Iterator.Splits.{YieldsList-from_slice_split}
use Rattle.rulesheet.specs.Readings.{blank}
use Rattle.rulesheet.proofs.Numbers.{has_bytes, begun, number_more, no_number, all_numbers}
use Rattle.rulesheet.proofs.readings.readings_of.Goals as goal

pub loop-word-init : goal.loop-word-init
loop-word-init c = rw c.new-numbers.ensures.items (begun c.args.line.now)

pub returns-in_default : goal.returns-in_default
returns-in_default c =
    let turn = YieldsList-turn (YieldsList-at c.into_iter-word-iterator.ensures.into_iter_gives (YieldsList-from_filter _ has_bytes (YieldsList-at c.filter-word-items.ensures.source (YieldsList-from_slice_split _ blank c.args.line.now c.split.ensures.rest c.split.ensures.done c.split.ensures.closure (λ x b q k. search (rules, tests)))) c.filter-word-items.ensures.closure (λ x b q k. search (rules, tests)))) c.loop-word.yielded _ c.loop-word.yielded_by _ _ c.in-Some.word c.in-Some.is c.next.ensures.steps in
    no_number c.args.line.now (length c.loop-word.yielded) c.in-Some.word.now (vec_items c.loop-word.numbers) turn c.loop-word.invariant (sym c.in_default.is ∙ c.signed_integer.ensures)

pub loop-word-preserved : goal.loop-word-preserved
loop-word-preserved c =
    let turn = YieldsList-turn (YieldsList-at c.into_iter-word-iterator.ensures.into_iter_gives (YieldsList-from_filter _ has_bytes (YieldsList-at c.filter-word-items.ensures.source (YieldsList-from_slice_split _ blank c.args.line.now c.split.ensures.rest c.split.ensures.done c.split.ensures.closure (λ x b q k. search (rules, tests)))) c.filter-word-items.ensures.closure (λ x b q k. search (rules, tests)))) c.loop-word.yielded _ c.loop-word.yielded_by _ _ c.in-Some.word c.in-Some.is c.next.ensures.steps in
    let pushed : vec_items c.push.new.self ≡ vec_items c.loop-word.numbers ++ c.in-Some-signed_integer.number ∷ [] = search rules in
    rw (length_push c.loop-word.yielded c.in-Some.word) (number_more c.args.line.now (length c.loop-word.yielded) c.in-Some.word.now (vec_items c.loop-word.numbers) turn c.loop-word.invariant c.in-Some-signed_integer.number (vec_items c.push.new.self) c.in-Some-signed_integer.ensures pushed)

pub returns : goal.returns
returns c =
    let end = YieldsList-end (YieldsList-at c.into_iter-word-iterator.ensures.into_iter_gives (YieldsList-from_filter _ has_bytes (YieldsList-at c.filter-word-items.ensures.source (YieldsList-from_slice_split _ blank c.args.line.now c.split.ensures.rest c.split.ensures.done c.split.ensures.closure (λ x b q k. search (rules, tests)))) c.filter-word-items.ensures.closure (λ x b q k. search (rules, tests)))) c.loop-word.yielded _ c.loop-word.yielded_by _ _ c.in-None.is c.next.ensures.steps in
    all_numbers c.args.line.now (length c.loop-word.yielded) (vec_items c.loop-word.numbers) end.1 c.loop-word.invariant
