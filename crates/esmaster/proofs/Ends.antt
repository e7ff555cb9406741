-- Which answers a replay can't give: what each answer's own cause rules out.
use Rattle.std.specs.Prelude.{◌≡◌, ℕ, ◌+◌, ◌<◌, ◌≤◌, true, false, List, ◌++◌, Option, Some, None, Result, Ok, Err, IfSome, codes, length, take, refl}
use Rattle.std.proofs.Common.{sym, ◌∙◌, ap, subst, arith, inl, inr}
use Rattle.std.proofs.Math.Bool.{true≢false}
use Rattle.std.proofs.lemmas.List.{length-append, length-take}
use Rattle.std.specs.Io.KnownBytes.{Consumes}
use Rattle.edge_io.specs.Bytes.{AppendsPart, Takes}
use Rattle.scripts.specs.declared.whole_script.Script.{Script}
use Rattle.script_form.specs.declared.refusals.ScriptRefusal.{ScriptRefusal}
use Rattle.script_form.specs.Reading.{script_of}
use Rattle.script_form.specs.Refusals.{refusal_text}
use Rattle.esmaster.specs.declared.exits.Exit.{Exit}
use Rattle.esmaster.specs.declared.exits.Exit.TheVariants.{Done, Usage, ScriptRefused, ReadFault, WriteFault, OutOfMemory, TooLong}
use Rattle.esmaster.specs.Answers.{Edges, Ends, IsComplete, IsRefusedExactly, Replays, WritesAnswer, WritesPart, answer_of}

some_same : {A : Type 0} (a b : A) → Some a ≡ Some b → a ≡ b
some_same a b e = cc

none_some : {A : Type 0} (a : A) → None ≡ Some a → ⊥
none_some a e = cc

if_some : (P : List ℕ → Type 0) (o : Option (List ℕ)) → ((a : List ℕ) → o ≡ Some a → P a) → IfSome o P
if_some P None f = tt
if_some P (Some a) f = f a refl

of_some : (P : List ℕ → Type 0) (o : Option (List ℕ)) (a : List ℕ) → o ≡ Some a → IfSome o P → P a
of_some P None a e p = absurd (none_some a e)
of_some P (Some b) a e p = subst P (some_same b a e) p

-- ---- an accepted script

accepted_unrefused : (read : Result Script ScriptRefusal) (script : Script) → read ≡ Ok script → (answer_of read).refused ≡ true → ⊥
unfolding answer_of
accepted_unrefused (Ok made) script e h = true≢false (sym h)
accepted_unrefused (Err refusal) script e h = cc

longer : (xs ys : List ℕ) → length (xs ++ ys) ≡ length xs + length ys
longer xs ys = length-append xs ys

too_much : (input : List ℕ) (left : Option (List ℕ)) (bytes : List ℕ) → Consumes (Some input) left bytes → length bytes ≡ 16777217 → length input ≤ 16777216 → ⊥
too_much input None bytes c n short = c
too_much input (Some rest) bytes c n short = let e = ap (λ (l : List ℕ). length l) c in let l = longer bytes rest in omega arith

complete_of : (input : List ℕ) (before now : Edges) (exit : Exit) → Ends before now exit → before.left ≡ Some input → IsComplete input before now exit
complete_of input before now Done ends e = λ script reads short calm quiet. inl refl
complete_of input before now OutOfMemory ends e = λ script reads short calm quiet. inr refl
complete_of input before now Usage ends e = absurd (ends.no_usage refl)
complete_of input before now ReadFault ends e = λ script reads short calm quiet. absurd (calm (ends.read_fault refl).0)
complete_of input before now WriteFault ends e = λ script reads short calm quiet. absurd (quiet (ends.write_fault refl).0)
complete_of input before now TooLong ends e = λ script reads short calm quiet.
    let takes = subst (λ l. Takes l now.left 16777217) e (ends.too_long refl).0 in absurd (too_much input now.left takes.0 takes.1 takes.2 short)
complete_of input before now ScriptRefused ends e = λ script reads short calm quiet.
    absurd (accepted_unrefused (script_of input) script reads (of_some (λ i. WritesAnswer true i before now) before.left input e (ends.script_refused refl)).kind)

-- ---- a refused script

some_text : (read : Result Script ScriptRefusal) → (answer_of read).refused ≡ true → 0 < length (answer_of read).text
unfolding answer_of
some_text (Ok made) h = absurd (true≢false (sym h))
some_text (Err refusal) h = let l = longer (codes "refused ") (refusal_text refusal ++ codes "\n") in omega arith

same_length : (held text : List ℕ) → held ≡ held ++ text → 0 < length text → ⊥
same_length held text e some = let n = ap (λ (l : List ℕ). length l) e in let l = longer held text in omega arith

shorter : (old text : List ℕ) (held : Option (List ℕ)) → AppendsPart (Some old) held text → held ≡ Some (old ++ text) → ⊥
shorter old text None part e = none_some _ e
shorter old text (Some now) part e =
    let same : old ++ take part.0 text ≡ old ++ text = sym part.2 ∙ some_same _ _ e in
    let n = ap (λ (l : List ℕ). length l) same in
    let a = longer old (take part.0 text) in
    let b = longer old text in
    let less = part.1 in
    let t = length-take part.0 text in
    omega arith

unwritten : (input held : List ℕ) (before now : Edges) (exit : Exit) → before.held ≡ Some held → now.held ≡ before.held → IsRefusedExactly input held now exit
unwritten input held before now exit h same = λ end refused written.
    absurd (same_length held (answer_of (script_of input)).text (some_same _ _ (sym h ∙ (sym same ∙ written))) (some_text (script_of input) refused))

refused_of : (input held : List ℕ) (before now : Edges) (exit : Exit) → Ends before now exit → before.left ≡ Some input → before.held ≡ Some held
    → IsRefusedExactly input held now exit
refused_of input held before now Done ends e h = λ end refused written.
    absurd (true≢false (sym refused ∙ (of_some (λ i. WritesAnswer false i before now) before.left input e (ends.done refl)).kind))
refused_of input held before now Usage ends e h = absurd (ends.no_usage refl)
refused_of input held before now ScriptRefused ends e h = λ end refused written. refl
refused_of input held before now ReadFault ends e h = unwritten input held before now ReadFault h (ends.read_fault refl).1
refused_of input held before now WriteFault ends e h = λ end refused written.
    let part = of_some (λ i. WritesPart i before now) before.left input e (ends.write_fault refl).1 in
    absurd (shorter held (answer_of (script_of input)).text now.held (subst (λ b. AppendsPart b now.held (answer_of (script_of input)).text) h part.written) written)
refused_of input held before now OutOfMemory ends e h = unwritten input held before now OutOfMemory h (ends.out_of_memory refl)
refused_of input held before now TooLong ends e h = unwritten input held before now TooLong h (ends.too_long refl).1

-- ---- from what each end tells

pub replays_of : (before now : Edges) (exit : Exit) → Ends before now exit → Replays before now exit
replays_of before now exit ends = record {
  ends = ends;
  refused_exactly = if_some _ before.left (λ input e. if_some _ before.held (λ held h. refused_of input held before now exit ends e h));
  complete = if_some _ before.left (λ input e. complete_of input before now exit ends e);
}
