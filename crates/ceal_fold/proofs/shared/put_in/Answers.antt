use Rattle.ceal_fold.proofs.PageSteps.{put-in}
use Rattle.ceal_fold.proofs.shared.put_in.Goals as goal

-- the page is taken out and put back with the new assignment
pub returns : goal.returns
returns c = record {
  value = put-in c.args.pages.now.entries c.take_page-page.new.pages.entries c.put_page.new.pages.entries c.args.v c.page_number-number.result c.args.last c.in_ok-page.page
      c.take_page-page.result c.page_number-number.ensures.value c.take_page-page.ensures.page c.take_page-page.ensures.left c.in_ok-put_page.ensures.value c.in_ok-page.ensures.value;
}
