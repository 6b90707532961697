use Rattle.std.proofs.Common.{◌≡◌, ◌++◌, ◌∙◌, ℕ, List, ap, codes, string_bytes}
use Rattle.snx_write.specs.Combined.{text_of, given_line}
use Rattle.snx_write.proofs.Lines.{more_lines, pushed_block}
use Rattle.snx_write.proofs.heads.push_references.Goals as goal

-- the line of a text is that of an equal one
same_given : (what old text same one : List ℕ) → one ≡ old ++ text_of (given_line what text) → text ≡ same → one ≡ old ++ text_of (given_line what same)
same_given what old text same one e f = e ∙ ap (λ t. old ++ text_of (given_line what t)) f

pub returns : goal.returns
returns c =
    let description = given_line (codes "DESCRIPTION") (string_bytes c.args.control.now.description) in
    let output = given_line (codes "OUTPUT") (string_bytes c.args.control.now.output) in
    let contact = given_line (codes "CONTACT") (string_bytes c.args.control.now.contact) in
    let software = given_line (codes "SOFTWARE") (codes "snxcomb") in
    pushed_block (codes "FILE/REFERENCE") (description ++ (output ++ (contact ++ software))) c.args.out.now.items _ _ _ _ c.in_ok-push_line.ensures
    (more_lines description (output ++ (contact ++ software)) _ _ _ (same_given (codes "DESCRIPTION") _ _ _ _ c.in_ok-push_given.ensures c.as_bytes.ensures.value)
    (more_lines output (contact ++ software) _ _ _ (same_given (codes "OUTPUT") _ _ _ _ c.in_ok-push_given-2.ensures c.as_bytes-2.ensures.value)
    (more_lines contact software _ _ _ (same_given (codes "CONTACT") _ _ _ _ c.in_ok-push_given-3.ensures c.as_bytes-3.ensures.value) c.in_ok-push_given-4.ensures)))
    c.push_line-2.ensures
