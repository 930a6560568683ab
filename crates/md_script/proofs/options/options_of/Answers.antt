use Rattle.std.proofs.Common.{◌≡◌, ◌∙◌, true, false, rules, sym, Some, None}
use Rattle.md_script.specs.Lines.{words_of}
use Rattle.md_script.specs.Options.{choice_of, with_choice, is_where}
use Rattle.md_script.proofs.Asking.{read_all, read_empty, after_shorter, where_step, none_step, refused_step, taken_step}
use Rattle.md_script.proofs.options.options_of.Goals as goal

pub loop-rest-init : goal.loop-rest-init
loop-rest-init c = read_all c.new-options.result (words_of c.args.text.now) c.new-options.ensures

pub returns-then-eq : goal.returns-then-eq
returns-then-eq c =
    let is : is_where c.split_word.result.0.now ≡ true = search rules in
    where_step c.loop-rest.options c.loop-rest.rest.now c.split_word.result.0.now c.split_word.result.1.now _ c.loop-rest.invariant c.split_word.ensures.word c.split_word.ensures.rest is

pub returns-in_default : goal.returns-in_default
returns-in_default c =
    let is : is_where c.split_word.result.0.now ≡ false = search rules in
    let none : None ≡ choice_of c.split_word.result.0.now = search rules in
    none_step c.loop-rest.options c.loop-rest.rest.now c.split_word.result.0.now c.split_word.result.1.now _ c.loop-rest.invariant c.split_word.ensures.word c.split_word.ensures.rest is none

pub returns-then-not-branch : goal.returns-then-not-branch
returns-then-not-branch c =
    let is : is_where c.split_word.result.0.now ≡ false = search rules in
    let some : Some c.in-Some.choice ≡ choice_of c.split_word.result.0.now = search rules in
    let none : with_choice c.loop-rest.options c.in-Some.choice ≡ None = search rules in
    refused_step c.loop-rest.options c.loop-rest.rest.now c.split_word.result.0.now c.split_word.result.1.now _ c.loop-rest.invariant c.split_word.ensures.word c.split_word.ensures.rest c.in-Some.choice is some none

pub loop-rest-smaller : goal.loop-rest-smaller
loop-rest-smaller c = after_shorter c.loop-rest.rest.now c.split_word.result.1.now c.split_word.ensures.rest (sym c.is_empty.ensures ∙ c.loop-rest-test.true)

pub loop-rest-preserved : goal.loop-rest-preserved
loop-rest-preserved c =
    let is : is_where c.split_word.result.0.now ≡ false = search rules in
    let some : Some c.in-Some.choice ≡ choice_of c.split_word.result.0.now = search rules in
    let taken : with_choice c.loop-rest.options c.in-Some.choice ≡ Some c.take.new.self = search rules in
    taken_step c.loop-rest.options c.loop-rest.rest.now c.split_word.result.0.now c.split_word.result.1.now _ c.loop-rest.invariant c.split_word.ensures.word c.split_word.ensures.rest c.in-Some.choice c.take.new.self is some taken

pub returns : goal.returns
returns c = sym (read_empty c.loop-rest.options c.loop-rest.rest.now (search rules)) ∙ c.loop-rest.invariant
