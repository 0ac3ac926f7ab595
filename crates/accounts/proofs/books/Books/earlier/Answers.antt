use Rattle.std.proofs.Common.{◌≡◌, length, pos, sym, ◌∙◌, arith, rules}
use lib.ListN.{length-map}
use Rattle.std.proofs.lemmas.List.{ext_get_or, get_or-map}
use Rattle.accounts.specs.declared.account.Account.{Account}
use Rattle.accounts.specs.Books.{earlier, no_account}
use Rattle.accounts.proofs.books.Books.earlier.Goals as goal

pub returns : goal.returns
returns c =
    let books = c.args.self.now in
    let headed = books.headed in
    let long : length (earlier books) ≡ length books.accounts = length-map books.accounts (λ (a : Account). a.before) in
    ext_get_or (pos 0) c.map.result (earlier books) (c.map.ensures.items.long ∙ sym (long ∙ headed))
    (λ k h. let at = c.map.ensures.items.at k no_account (pos 0) (omega arith) in search rules ∙ sym (get_or-map (λ (a : Account). a.before) books.accounts k no_account (pos 0) (omega arith)))
