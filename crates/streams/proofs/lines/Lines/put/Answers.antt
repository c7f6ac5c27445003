-- What is put is what the line's own memory has, once the line is whole there.
use Rattle.std.proofs.Common.{◌≡◌, refl, ap, ◌∙◌, List, ◌++◌, ℕ, Option, Some, None, IfSome, OnOk, IsOk, Result, Ok, Err}
use Rattle.std.proofs.lemmas.Fmt.{contents_after_writes}
use Rattle.streams.proofs.lines.Lines.put.Goals as goal

shown_on_ok : {X Y : Type 0} (r : Result X Y) (o : Option (List ℕ)) (P Q : List ℕ → Type 0)
    → (IsOk r → (s : List ℕ) → P s → Q s) → IfSome o P → OnOk r (IfSome o Q)
shown_on_ok (Err e) o P Q f p = tt
shown_on_ok (Ok x) None P Q f p = tt
shown_on_ok (Ok x) (Some s) P Q f p = f refl s p

pub returns-clause-put : goal.returns-clause-put
returns-clause-put g c =
    let old = c.args.self.now.text.bytes in
    shown_on_ok c.write_str.result (g.D.Display.output c.args.line) _ (λ s. c.write_str.new.self.bytes ≡ old ++ s)
    (λ ok s wrote. c.write_str.ensures.ok ok ∙ ap (λ l. old ++ l) (c.as_str.ensures.value
    ∙ (contents_after_writes _ (λ t. t.bytes) (λ w l v t. t) c.clear.new.self s c.write.new.self wrote ∙ ap (λ l. l ++ s) c.clear.ensures)))
    c.in_ok-write.ensures.writes
